-- What a certificate says of the whole chart, and which fault is an overrun of bounds.
use Rattle.std.specs.Prelude.{◌≢◌, ◌<◌, ◌+◌, ℕ, List, [], ◌∷◌, max, Option, Some, Bool, true, false, if◌then◌else◌}
use Rattle.flow_base.specs.declared.fault.Fault.{Fault}
use Rattle.flow_base.specs.declared.fault.Fault.TheVariants as faults
use Rattle.actions.specs.declared.event.Event.TheVariants.{Start, Tick, Named}
use Rattle.actions.specs.declared.names.EventDecl.{EventDecl}
use Rattle.actions.specs.declared.names.EventKind.{EventKind}
use Rattle.actions.specs.declared.names.EventKind.TheVariants.{Input, Local, Output}
use Rattle.checked_chart.specs.Chart.{Chart}
use Rattle.bound_prove.specs.declared.need.Need.{Need}
use Rattle.bound_prove.specs.declared.need.Part.TheVariants as parts
use Rattle.bound_prove.specs.declared.need.TheConstants.{DEPTH_END, STEP_END}
use Rattle.bound_prove.specs.Needs.{nothing_needed, either}
use Rattle.bound_prove.specs.Cells.{Cells}

-- whether a kind is that of input events
abbrev pub is_input : EventKind → Bool
is_input Input = true
is_input Local = false
is_input Output = false

-- what one of the input events needs, where the first has that number
abbrev pub inputs_need : (ℕ → Need) → ℕ → List EventDecl → Need
inputs_need f n [] = nothing_needed
inputs_need f n (d ∷ rest) =
    either (if is_input d.kind then f n else nothing_needed) (inputs_need f (n + 1) rest)

-- at least one of both
abbrev pub at_least_one : Need → Need
at_least_one x = record { depth = max 1 x.depth; steps = max 1 x.steps }

-- the roots: the start, a tick, and each input event
abbrev pub root_need : Chart → Cells → Need
root_need c g =
    at_least_one (either (g Start parts.Enter 0)
    (either (g Tick parts.Process 0) (inputs_need (λ e. g (Named e) parts.Process 0) 0 c.names.events)))

-- below the ends
pub record IsWithin (x : Need) : Type 0 where
  pub depth : x.depth < DEPTH_END
  pub steps : x.steps < STEP_END

-- no bound ended the run
pub record NoOverrun (fault : Option Fault) : Type 0 where
  pub no_depth : fault ≢ Some faults.Depth
  pub no_steps : fault ≢ Some faults.Steps
