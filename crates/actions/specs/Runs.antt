-- Runs of an engine over events with inputs: what the start and each event leave, up to the first fault.
use Rattle.std.specs.Prelude.{◌≡◌, ℕ, ◌+◌, List, [], ◌∷◌, Option, Some, None}
use Rattle.flow_base.specs.declared.fault.Fault.{Fault}
use Rattle.actions.specs.Engines.{CanReactTo, IsInputValue, IsInputSet}
use Rattle.actions.specs.Names.{Names}
use Rattle.actions.specs.World.{World}
use Rattle.actions.specs.declared.event.Event.{Event}
use Rattle.actions.specs.declared.expr.Value.{Value}

-- an event, and for each datum the value that it is given before the event, if any
pub record EventWithInputs : Type 0 where
  pub event : Event
  pub inputs : List (Option Value)

-- each datum that is given a value, from a number on, is an input, and the value is one of its sort
abbrev pub AreInputValues : Names → ℕ → List (Option Value) → Type 0
AreInputValues n v [] = Unit {0}
AreInputValues n v (None ∷ inputs) = AreInputValues n (v + 1) inputs
AreInputValues n v (Some value ∷ inputs) = IsInputValue n v value × AreInputValues n (v + 1) inputs

-- a running engine can be given the values, and then the event
pub record CanBeGiven (n : Names) (given : EventWithInputs) : Type 0 where
  pub event : CanReactTo n given.event
  pub inputs : AreInputValues n 0 given.inputs

-- which worlds a start may give, with that fault or none
abbrev pub StartRelation : Type 1
StartRelation = World → Option Fault → Type 0

-- which worlds an event may give from a world, with that fault or none
abbrev pub ReactionRelation : Type 1
ReactionRelation = World → Event → World → Option Fault → Type 0

-- what the start or an event left: the world, and the fault that ended the run, or none
pub record Moment : Type 0 where
  pub world : World
  pub fault : Option Fault

-- the data from a number on have the values that they are given, one after another, and nothing else changes
abbrev pub AreSet : ℕ → List (Option Value) → World → World → Type 0
AreSet v [] w w' = w' ≡ w
AreSet v (None ∷ inputs) w w' = AreSet (v + 1) inputs w w'
AreSet v (Some value ∷ inputs) w w' =
    (between : World) × IsInputSet w v value between × AreSet (v + 1) inputs between w'

-- the inputs are set, and then the event is processed
abbrev pub ReactsWithInputs : ReactionRelation → World → EventWithInputs → World → Option Fault → Type 0
ReactsWithInputs react w given w' fault =
    (set : World) × AreSet 0 given.inputs w set × react set given.event w' fault

-- after a moment with a fault there is none; after any other one, more holds
abbrev pub UnlessFaulted : Option Fault → List Moment → Type 0 → Type 0
UnlessFaulted None moments more = more
UnlessFaulted (Some fault) moments more = moments ≡ []

-- after a moment come those of the events, up to the first fault
abbrev pub GoesOn : ReactionRelation → Moment → List EventWithInputs → List Moment → Type 0
GoesOn react m [] moments = moments ≡ []
GoesOn react m (given ∷ events) moments = UnlessFaulted m.fault moments
    ((next : Moment) × (later : List Moment) × (moments ≡ next ∷ later)
    × ReactsWithInputs react m.world given next.world next.fault × GoesOn react next events later)

-- A run over events: the moments after the start and after each event, up to the first fault.
abbrev pub Runs : StartRelation → ReactionRelation → List EventWithInputs → List Moment → Type 0
Runs start react events [] = ⊥
Runs start react events (m ∷ moments) = start m.world m.fault × GoesOn react m events moments
