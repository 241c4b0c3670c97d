-- The trace of a run, and the fault that ends it.
use Rattle.std.specs.Prelude.{◌≡◌, ℕ, ◌+◌, List, [], ◌∷◌, ◌++◌, Option, Some, None}
use Rattle.flow_base.specs.declared.fault.Fault.{Fault}
use Rattle.active_config.specs.Tree.{Tree}
use Rattle.actions.specs.Names.{Names}
use Rattle.actions.specs.Runs.{EventWithInputs, Moment, StartRelation, ReactionRelation, Runs}
use Rattle.actions.specs.declared.event.Event.{Event}
use Rattle.actions.specs.declared.event.Event.TheVariants.{Start}
use Rattle.trace_text.specs.Trace.{trace_line}

-- the line of a moment
abbrev pub moment_line : Tree → Names → ℕ → Event → Moment → List ℕ
moment_line t n index event m = trace_line t n m.world index event m.fault

-- a line for each event that has a moment, from an index on
abbrev pub trace_from : Tree → Names → ℕ → List EventWithInputs → List Moment → List ℕ
trace_from t n index [] moments = []
trace_from t n index (event ∷ events) [] = []
trace_from t n index (event ∷ events) (m ∷ moments) =
    moment_line t n index event.event m ++ trace_from t n (index + 1) events moments

-- The trace of a run: the line of the start, with index 0, and then a line for each event.
abbrev pub trace : Tree → Names → List EventWithInputs → List Moment → List ℕ
trace t n events [] = []
trace t n events (m ∷ moments) = moment_line t n 0 Start m ++ trace_from t n 1 events moments

-- at which index a run ended in a fault, and in which
pub record RunFault : Type 0 where
  pub index : ℕ
  pub fault : Fault

-- the fault of the moment with that index, or else a later one
abbrev pub fault_or : ℕ → Option Fault → Option RunFault → Option RunFault
fault_or index None later = later
fault_or index (Some fault) later = Some (record { index = index; fault = fault })

-- the first fault of moments, the first of which has that index
abbrev pub run_fault : ℕ → List Moment → Option RunFault
run_fault index [] = None
run_fault index (m ∷ moments) = fault_or index m.fault (run_fault (index + 1) moments)

-- there is a run over the events with that trace, and with that fault or none
pub record Ran (start : StartRelation) (react : ReactionRelation) (t : Tree) (n : Names) (events : List EventWithInputs)
    (text : List ℕ) (fault : Option RunFault) : Type 0 where
  pub moments : List Moment
  pub runs : Runs start react events moments
  pub traced : text ≡ trace t n events moments
  pub ended : run_fault 0 moments ≡ fault
