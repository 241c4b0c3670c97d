-- What a counter has counted, by the log.
use Rattle.std.specs.Prelude.{◌≡◌, ◌==◌, ◌+◌, ℕ, List, [], ◌∷◌, Bool, true, false, min, if◌then◌else◌}
use Rattle.actions.specs.declared.event.Event.{Event}
use Rattle.actions.specs.Data.{datum}
use Rattle.actions.specs.World.{World}
use Rattle.actions.specs.Work.{is_event}
use Rattle.counting_rules.specs.Counters.{Counted, Counters}
use Rattle.counting_rules.specs.Numbers.{IsCounter}
use Rattle.counting_log.specs.Log.{Note, since, Untouched}

-- ---- whose counter a datum is

-- whether a datum is among some
abbrev pub is_in : ℕ → List ℕ → Bool
is_in v [] = false
is_in v (u ∷ us) = if u == v then true else is_in v us

-- how often a datum is among some
abbrev pub times_in : ℕ → List ℕ → ℕ
times_in v [] = 0
times_in v (u ∷ us) = if u == v then 1 + times_in v us else times_in v us

-- how often a datum is made one more where the chart is processed with the event
abbrev pub times : ℕ → List Counted → Event → ℕ
times v [] now = 0
times v (k ∷ ks) now = (if is_event k.event now then times_in v k.counters else 0) + times v ks now

-- the datum is the counter of the event for the state, and of nothing else: entering the state sets it to 0, and
-- entering no other one does; processing the chart with the event makes it one more, and with no other event
pub record IsCounterOf (k : Counters) (v s e : ℕ) : Type 0 where
  pub reset : (x : ℕ) → is_in v (k.resets x) ≡ (x == s)
  pub counted : (now : Event) → times v k.counted now ≡ (if is_event e now then 1 else 0)

-- ---- what it has counted

-- unless a statement of the chart assigned to it, the counter is the number of times that the chart was processed with
-- the event since the state was last entered, or the greatest of its type where that is less
abbrev pub IsNumber : ℕ → ℕ → ℕ → ℕ → World → List Note → Type 0
IsNumber v s e greatest w l = Untouched v l → IsCounter (datum w.vals v) greatest (min (since s e l) greatest)

-- no statement of the chart has assigned to the counter, and it is that number
abbrev pub IsCount : ℕ → ℕ → ℕ → ℕ → World → List Note → Type 0
IsCount v s e greatest w l = Untouched v l × IsCounter (datum w.vals v) greatest (min (since s e l) greatest)
