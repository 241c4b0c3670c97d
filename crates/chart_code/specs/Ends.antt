-- How far the states below a state go. They follow it, as states are numbered in pre-order.
use Rattle.std.specs.Prelude.{ℕ, suc, ◌-◌, Option, None}
use Rattle.std.specs.List.{filter, last_or, range_with_len}
use Rattle.std.specs.Option.{option_map_or}
use Rattle.active_config.specs.Tree.{Tree, state_count, is_at_or_below}

-- the last of the states at or below s
unfoldable pub last_at_or_below : Tree → ℕ → Option ℕ
last_at_or_below t s = last_or None (filter (λ x. is_at_or_below t x s) (range_with_len 0 (state_count t)))

-- the number after it: the states at or below s are those from s to before this number
unfoldable pub end_of : Tree → ℕ → ℕ
end_of t s = option_map_or suc (last_at_or_below t s) (suc s)

-- how many states are strictly below s
unfoldable pub below_count : Tree → ℕ → ℕ
below_count t s = end_of t s - suc s
