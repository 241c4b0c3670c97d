-- What an event of code takes at most.
use Rattle.std.specs.Prelude.{◌≤◌, ◌<◌, ℕ, ◌+◌, List, [], ◌∷◌, length, Option, Some, None}
use Rattle.flow_base.specs.declared.bounds.Bounds.{Bounds}
use Rattle.flow_base.specs.declared.fault.Fault.{Fault}
use Rattle.flow_base.specs.declared.fault.Fault.TheVariants as faults
use Rattle.actions.specs.declared.event.Event.{Event}
use Rattle.actions.specs.declared.event.Event.TheVariants.{Start}
use Rattle.actions.specs.Work.{from_outside}
use Rattle.actions.specs.World.{World, begun}
use Rattle.code_language.specs.Ahead.{ahead}
use Rattle.code_language.specs.Code.{Code}
use Rattle.code_language.specs.Machine.{Frame, CodeState, Next, Goes, Stops}
use Rattle.code_language.specs.Reactions.{program_of, first_frame, react_machine}
use Rattle.code_counts.specs.declared.numbers.Counted.{Counted}
use Rattle.code_counts.specs.declared.numbers.Counted.TheVariants.{Steps, Outputs, Depth, Notes}
use Rattle.code_counts.specs.declared.numbers.Counts.{Counts}

-- one where there is a note, else none
abbrev pub note_count : Option ℕ → ℕ
note_count None = 0
note_count (Some n) = 1

-- how many notes are pending: those of all frames, also of those from which an event was sent
unfoldable pub notes_of : List Frame → ℕ
notes_of [] = 0
notes_of (f ∷ fs) = note_count f.note + notes_of fs

-- how much a state of a run has of what is counted
abbrev pub amount : Counted → CodeState → ℕ
amount Steps m = m.world.used
amount Outputs m = length m.world.outputs
amount Depth m = m.now.depth
amount Notes m = notes_of m.frames

-- how much the world in which a run ends has of what is counted
abbrev pub end_amount : Counted → World → ℕ
end_amount Steps w = w.used
end_amount Outputs w = length w.outputs
end_amount Depth w = 0
end_amount Notes w = 0

-- where so much is the most, a run ends by the fault `steps` or `depth` only under a bound that is lower
abbrev pub MayFault : Counted → Bounds → ℕ → Option Fault → Type 0
MayFault Steps b most None = Unit {0}
MayFault Steps b most (Some faults.Depth) = Unit {0}
MayFault Steps b most (Some faults.Steps) = b.steps < most
MayFault Steps b most (Some (faults.Overflow v)) = Unit {0}
MayFault Steps b most (Some faults.Zero) = Unit {0}
MayFault Depth b most None = Unit {0}
MayFault Depth b most (Some faults.Depth) = b.depth < most
MayFault Depth b most (Some faults.Steps) = Unit {0}
MayFault Depth b most (Some (faults.Overflow v)) = Unit {0}
MayFault Depth b most (Some faults.Zero) = Unit {0}
MayFault Outputs b most fault = Unit {0}
MayFault Notes b most fault = Unit {0}

-- where a run stands there is no more than so much of what is counted
abbrev pub IsWithin : Counted → Bounds → ℕ → Next → Type 0
IsWithin c b most (Goes m) = amount c m ≤ most
IsWithin c b most (Stops w fault) = (end_amount c w ≤ most) × MayFault c b most fault

-- at no time of a start or of a reaction, from whatever world and under whatever bounds, there is more than so much
pub record HasMost (c : Counted) (k : Code) (most : ℕ) : Type 0 where
  pub start : (b : Bounds) (n : ℕ) (w : World)
      → IsWithin c b most (ahead (program_of k b) n (first_frame k.procedures.start (begun w) (from_outside Start)))
  pub reaction : (b : Bounds) (n : ℕ) (w : World) (e : Event)
      → IsWithin c b most (ahead (program_of k b) n (react_machine k w e))

-- the numbers of code
pub record HasCounts (k : Code) (counts : Counts) : Type 0 where
  pub steps : HasMost Steps k counts.steps
  pub outputs : HasMost Outputs k counts.outputs
  pub depth : HasMost Depth k counts.depth
  pub notes : HasMost Notes k counts.notes
