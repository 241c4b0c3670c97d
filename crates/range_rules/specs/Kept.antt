-- What a certificate says of each moment of a run, and which claims it proves.
use Rattle.std.specs.Prelude.{◌≡◌, ◌≢◌, ℕ, Bool, false, true, Some, None, Ok, slice_get, slice_index_or}
use Rattle.flow_base.specs.declared.fault.Fault.TheVariants as faults
use Rattle.actions.specs.declared.expr.Value.TheVariants.{Flag}
use Rattle.actions.specs.Exprs.{Expr}
use Rattle.actions.specs.Runs.{Moment}
use Rattle.actions.specs.Values.{value_of}
use Rattle.checked_chart.specs.Chart.{Chart}
use Rattle.range_rules.specs.declared.cert.Around.{Around}
use Rattle.range_rules.specs.declared.cert.Certificate.{Certificate}
use Rattle.range_rules.specs.Closed.{IsRest}
use Rattle.range_rules.specs.Worlds.{AreAlways}
use Rattle.range_spans.specs.Boxes.{box_of, sort_at}
use Rattle.range_spans.specs.declared.known.Known.TheVariants.{Truth}
use Rattle.range_spans.specs.Known.{guess}

-- Each datum is in its span, and only faults that there may be have come. Without a fault the world is one of those
-- between two events.
pub record KeepsRanges (c : Chart) (cert : Certificate) (m : Moment) : Type 0 where
  pub data_in : AreAlways cert m.world
  pub zero : cert.zero ≡ false → m.fault ≢ Some faults.Zero
  pub overflow : (v : ℕ) → slice_index_or cert.over.items v false ≡ false → m.fault ≢ Some (faults.Overflow v)
  pub rests : m.fault ≡ None → IsRest c cert m.world

-- what is known of a claim in a set is that it is true
abbrev pub IsKnown : Chart → Expr → Around → Type 0
IsKnown c claim x =
    (may : Bool) × (guess (sort_at c.names) (box_of x.spans.items) x.config claim ≡ record
    { known = Truth false may; zero = false })

-- and so in all sets between two events
abbrev pub Proves : Chart → Certificate → Expr → Type 0
Proves c cert claim = (i : ℕ) (x : Around) → slice_get cert.rest.items i ≡ Some x → IsKnown c claim x

-- the claim is true at a moment that has no fault
abbrev pub IsTrueAt : Expr → Moment → Type 0
IsTrueAt claim m = m.fault ≡ None → value_of m.world.vals m.world.marks claim ≡ Ok (Flag true)
