-- What a closed certificate means for runs.
use Rattle.std.specs.Prelude.{◌≡◌, Bool, false, List}
use Rattle.std.specs.List.{AllByRecursion}
use Rattle.flow_base.specs.declared.bounds.Bounds.{Bounds}
use Rattle.actions.specs.Exprs.{Expr}
use Rattle.actions.specs.Runs.{EventWithInputs, Moment, CanBeGiven}
use Rattle.checked_chart.specs.Chart.{Chart}
use Rattle.sos_rules.specs.Reactions.{RulesRun}
use Rattle.range_rules.specs.declared.cert.Certificate.{Certificate}
use Rattle.range_rules.specs.Kept.{KeepsRanges, IsTrueAt}
use Rattle.range_spans.specs.declared.known.Guess.{Guess}
use Rattle.range_spans.specs.declared.known.Known.TheVariants.{Truth}

-- what is known of a value is that it is true, and no divisor may be 0
abbrev pub IsSure : Guess → Type 0
IsSure g = (may : Bool) × (g ≡ record { known = Truth false may; zero = false })

-- so it is at each moment of each run by the rules, for all bounds, and all events with inputs that can be given
abbrev pub InAllRuns : Chart → (Moment → Type 0) → Type 0
InAllRuns c P = (b : Bounds) (events : List EventWithInputs) (moments : List Moment)
    → AllByRecursion (CanBeGiven c.names) events → RulesRun c b events moments → AllByRecursion P moments

-- At each moment each datum is in its span, and no fault has come but those that there may be; after the start, and
-- after each event without a fault, the world is in one of the sets between two events.
abbrev pub StaysInRanges : Chart → Certificate → Type 0
StaysInRanges c cert = InAllRuns c (KeepsRanges c cert)

-- after the start, and after each event without a fault, the claim is true
abbrev pub IsTrueInRuns : Chart → Expr → Type 0
IsTrueInRuns c claim = InAllRuns c (IsTrueAt claim)
