-- Sums over the states at or below a state.
use Rattle.std.specs.Prelude.{ℕ, ◌<◌, ◌≤◌, length}
use Rattle.active_config.specs.Tree.{Tree, state_count, ancestors}
use Rattle.chart_code.specs.Ends.{end_of}
use Rattle.chart_code.specs.Orders.{sum_between}

-- the sum of f over the states at or below s
unfoldable pub sum_below : Tree → (ℕ → ℕ) → ℕ → ℕ
sum_below t f s = sum_between f s (end_of t s)

-- no state has more than d ancestors
abbrev pub HasDepth : Tree → ℕ → Type 0
HasDepth t d = (s : ℕ) → s < state_count t → length (ancestors t s) ≤ d
