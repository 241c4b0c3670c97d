-- Tables of numbers.
use Rattle.std.specs.Prelude.{◌≡◌, ◌<◌, ◌≤◌, ℕ, List, length, slice_index_or}

-- the values of f at the numbers below n, none greater than b
pub record IsTable (f : ℕ → ℕ) (n b : ℕ) (xs : List ℕ) : Type 0 where
  pub long : length xs ≡ n
  pub each : (k : ℕ) → k < n → slice_index_or xs k 0 ≡ f k
  pub low : (k : ℕ) → k < n → f k ≤ b

-- no number is greater than b
abbrev pub AreLow : ℕ → List ℕ → Type 0
AreLow b xs = (k : ℕ) → k < length xs → slice_index_or xs k 0 ≤ b
