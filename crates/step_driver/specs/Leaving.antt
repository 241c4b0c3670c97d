-- Where the engine is after the driver's answer: in the world to which its run over events of the file led.
use Rattle.std.specs.Prelude.{◌≡◌, ℕ, Bool, IsTrue, List, [], ◌∷◌, ◌++◌, Option, Some, None, Result, Ok, Err}
use Rattle.std.specs.Io.KnownBytes.{prepend_known}
use Rattle.actions.specs.Names.{Names}
use Rattle.actions.specs.Runs.{EventWithInputs, Moment, StartRelation, ReactionRelation, Runs}
use Rattle.actions.specs.World.{World}
use Rattle.event_file.specs.EventFile.{event_file}
use Rattle.step_driver.specs.Driving.{IsText, HasWhole, answer_of}
use Rattle.step_driver.specs.Traces.{RunFault, run_fault}
use Rattle.step_driver.specs.declared.driver.DriveEnd.{DriveEnd}
use Rattle.step_driver.specs.declared.driver.DriveEnd.TheVariants as ends

-- the world of the last moment
abbrev pub last_world : List Moment → Option World
last_world [] = None
last_world (m ∷ []) = Some m.world
last_world (m ∷ (next ∷ moments)) = last_world (next ∷ moments)

-- a run over the events led to that world, and ended with that fault or with none
pub record RanTo (start : StartRelation) (react : ReactionRelation) (events : List EventWithInputs) (w : World)
    (fault : Option RunFault) : Type 0 where
  pub moments : List Moment
  pub runs : Runs start react events moments
  pub last : last_world moments ≡ Some w
  pub ended : run_fault 0 moments ≡ fault

-- the run over all events of the file led to the world, and the answer says how run and events ended
pub record LeftByAll (start : StartRelation) (react : ReactionRelation) (n : Names) (before : Option (List ℕ))
    (w : World) (result : Result (Unit {0}) DriveEnd) : Type 0 where
  pub text : List ℕ
  pub is_text : IsText before text
  pub fault : Option RunFault
  pub ran : RanTo start react (event_file n text).events w fault
  pub answer : result ≡ answer_of fault (event_file n text).stop

-- the run over the events in the whole lines that were given led to the world
pub record LeftByGiven (start : StartRelation) (react : ReactionRelation) (n : Names) (before left : Option (List ℕ))
    (w : World) : Type 0 where
  pub given : List ℕ
  pub taken : before ≡ prepend_known given left
  pub whole : List ℕ
  pub has_whole : HasWhole given whole
  pub ran : RanTo start react (event_file n whole).events w None

-- the run over the first events of the file led to the world
pub record LeftByFirst (start : StartRelation) (react : ReactionRelation) (n : Names) (before : Option (List ℕ))
    (w : World) : Type 0 where
  pub text : List ℕ
  pub is_text : IsText before text
  pub events : List EventWithInputs
  pub rest : List EventWithInputs
  pub first_events : (event_file n text).events ≡ events ++ rest
  pub fault : Option RunFault
  pub ran : RanTo start react events w fault

-- Where the engine is, by the driver's answer. Nothing is said after the engine itself wanted memory, and after a
-- failed write that may have come after that.
abbrev pub Leaves : StartRelation → ReactionRelation → Names → Option (List ℕ) → Option (List ℕ) → Bool → World
    → Result (Unit {0}) DriveEnd → Type 0
Leaves start react n before left never w (Ok done) = LeftByAll start react n before w (Ok done)
Leaves start react n before left never w (Err (ends.Line number fault)) =
    LeftByAll start react n before w (Err (ends.Line number fault))
Leaves start react n before left never w (Err (ends.Fault index fault)) =
    LeftByAll start react n before w (Err (ends.Fault index fault))
Leaves start react n before left never w (Err ends.Read) = LeftByGiven start react n before left w
Leaves start react n before left never w (Err ends.Write) = IsTrue never → LeftByFirst start react n before w
Leaves start react n before left never w (Err ends.TooManyLines) =
    LeftByAll start react n before w (Err ends.TooManyLines)
Leaves start react n before left never w (Err ends.FileTooLong) =
    LeftByAll start react n before w (Err ends.FileTooLong)
Leaves start react n before left never w (Err ends.Memory) = Unit {0}
