-- The worlds before the start, and those between two events.
use Rattle.std.specs.Prelude.{◌≡◌, ◌<◌, ℕ, ℤ, true, List, Some, IsTrue, slice_get}
use Rattle.actions.specs.declared.event.Event.{Event}
use Rattle.actions.specs.declared.event.Event.TheVariants.{Start, Named}
use Rattle.actions.specs.declared.names.EventDecl.{EventDecl}
use Rattle.actions.specs.declared.names.EventKind.TheVariants as event_kinds
use Rattle.actions.specs.declared.names.Var.{Var}
use Rattle.actions.specs.declared.names.VarKind.{VarKind}
use Rattle.actions.specs.declared.names.VarKind.TheVariants.{Input, Output, Local}
use Rattle.actions.specs.Data.{datum, initial, is_mantissa_of}
use Rattle.actions.specs.Engines.{CanReactTo}
use Rattle.actions.specs.World.{World, world_before}
use Rattle.range_blocks.specs.Ends.{rules_in}
use Rattle.range_check.specs.Checks.{Processes}
use Rattle.range_rules.specs.declared.cert.Around.{Around}
use Rattle.range_rules.specs.Closed.{StandsFreed}
use Rattle.range_rules.specs.Worlds.{always_of}
use Rattle.range_spans.specs.declared.span.Span.{Span}
use Rattle.range_spans.specs.Boxes.{Box, box_of, put}
use Rattle.range_spans.specs.Spans.{IsIn, is_inside}
use Rattle.range_worlds.specs.declared.setting.Setting.{Setting}
use Rattle.range_worlds.specs.Leads.{At, Among, Leads, chart_in, cert_in, now_at}

-- each value of a datum, where it is an input, is in the span in which it always is
pub record IsCovered (s : Setting) (decl : Var) (v : ℕ) : Type 0 where
  pub covers : (m : ℤ) → decl.kind ≡ Input → IsTrue (is_mantissa_of decl.sort m) → IsIn (always_of (cert_in s) v) m

-- the span has the first value of a datum alone, and is inside the one in which the datum always is
pub record IsFirstSpan (s : Setting) (decl : Var) (v : ℕ) (span : Span) : Type 0 where
  pub alone : span ≡ record { low = decl.init; high = decl.init }
  pub inside : is_inside span (always_of (cert_in s) v) ≡ true

-- each first value is in its span and in the one in which the datum always is
pub record AreFirst (s : Setting) (spans : List Span) : Type 0 where
  pub inside : (v : ℕ) → IsIn (box_of spans v) (datum (initial (chart_in s).names) v).mantissa
  pub always : (v : ℕ) → IsIn (always_of (cert_in s) v) (datum (initial (chart_in s).names) v).mantissa

-- the world before the start is one of the set
pub record IsFirst (s : Setting) (x : Around) : Type 0 where
  pub at : At s x (world_before (chart_in s).tree (chart_in s).names)

-- an input has the span in which it always is, and the spans of others stay
abbrev pub widened_box : Setting → VarKind → ℕ → Box → Box
widened_box s Input v box = put v (always_of (cert_in s) v) box
widened_box s Output v box = box
widened_box s Local v box = box

-- the second set has the worlds of the first in which inputs have any values
pub record Frees (s : Setting) (x y : Around) : Type 0 where
  pub frees : (w : World) → StandsFreed (chart_in s).names (cert_in s) x w → At s y w

-- an event leads from each world of a set to one between two events
abbrev pub ReactsTo : Setting → Around → Event → Type 0
ReactsTo s y e = Processes s y 0 e (cert_in s).rest.items

-- so it does if it is an input event
pub record ReactsToInput (s : Setting) (y : Around) (event : EventDecl) (e : ℕ) : Type 0 where
  pub reacts : event.kind ≡ event_kinds.Input → ReactsTo s y (Named e)

-- so does each event that can be given
pub record ReactsToAll (s : Setting) (y : Around) : Type 0 where
  pub reacts : (e : Event) → CanReactTo (chart_in s).names e → ReactsTo s y e

-- the start leads to one of the worlds of a list
pub record Starts (s : Setting) (ends : List Around) : Type 0 where
  pub first : Around
  pub at : At s first (world_before (chart_in s).tree (chart_in s).names)
  pub starts : Leads s (At s first) (λ b n depth. (rules_in s b n).enter 0 0 (now_at Start depth))
      (λ _ w. Among s ends w)

-- each event that can be given leads from the worlds of a set, with any inputs, to worlds between two events
pub record ReactsFrom (s : Setting) (x : Around) : Type 0 where
  pub wide : Around
  pub frees : Frees s x wide
  pub reacts : ReactsToAll s wide

-- so it is with each set between two events
pub record ReactsFromAll (s : Setting) (count : ℕ) : Type 0 where
  pub reacts : (i : ℕ) (x : Around) → i < count → slice_get (cert_in s).rest.items i ≡ Some x → ReactsFrom s x
