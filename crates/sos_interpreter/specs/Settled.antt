-- What a piece of work gives from some height on.
use Rattle.std.specs.Prelude.{◌≡◌, ℕ, ◌≤◌}
use Rattle.actions.specs.Work.{Run}

-- from some height on, m gives this outcome
pub data Settled {A : Type 0} (m : ℕ → Run A) (r : Run A) : Type 0 where
  settled : (from : ℕ) → ((n : ℕ) → from ≤ n → m n ≡ r) → Settled m r

-- whatever the first gives, the second gives
pub record Continues {A : Type 0} (m k : ℕ → Run A) : Type 0 where
  pub by : (r : Run A) → Settled m r → Settled k r
