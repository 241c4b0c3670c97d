-- The log of a run with counters: what was entered, processed and assigned.
use Rattle.std.specs.Prelude.{◌==◌, ◌+◌, ◌≢◌, ℕ, List, [], ◌∷◌, if◌then◌else◌}
use Rattle.actions.specs.declared.event.Event.{Event}
use Rattle.actions.specs.Work.{is_event}

-- a state was entered; the chart was processed with a current event; a statement of the chart assigned to a datum
pub data Note : Type 0 where
  Entered : ℕ → Note
  Processed : Event → Note
  Assigned : ℕ → Note

-- How often the chart was processed with the event since the state was last entered, or since the log begins, by a log
-- whose last note stands first.
abbrev pub since : ℕ → ℕ → List Note → ℕ
since s e [] = 0
since s e (Entered x ∷ log) = if x == s then 0 else since s e log
since s e (Processed now ∷ log) = if is_event e now then since s e log + 1 else since s e log
since s e (Assigned v ∷ log) = since s e log

-- no statement assigned to the datum
abbrev pub Untouched : ℕ → List Note → Type 0
Untouched v [] = Unit {0}
Untouched v (Entered x ∷ log) = Untouched v log
Untouched v (Processed now ∷ log) = Untouched v log
Untouched v (Assigned u ∷ log) = (u ≢ v) × Untouched v log
