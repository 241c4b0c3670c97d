-- How states of a tree are related: the child towards a state, and the home of a firing.
use Rattle.std.specs.Prelude.{◌==◌, ℕ, Option, Some, None, if◌then◌else◌}
use Rattle.std.specs.List.{find, list_any}
use Rattle.active_config.specs.Tree.{Tree, children_of, ancestors, is_at_or_below}
use Rattle.checked_chart.specs.declared.parts.ListKind.{ListKind}
use Rattle.checked_chart.specs.declared.parts.ListKind.TheVariants.{Outer, Inner, Default}

-- the child of a state that is d or above d
unfoldable pub child_toward : Tree → ℕ → ℕ → Option ℕ
child_toward t s d = find (λ x. is_at_or_below t d x) (children_of t s)

-- where a child of an AND is entered on the way to d: at d, where that is the child or below it, else at the child
abbrev pub path_in : Tree → ℕ → ℕ → ℕ
path_in t x d = if is_at_or_below t d x then d else x

-- the lowest state that is strictly above both
unfoldable pub common_above : Tree → ℕ → ℕ → Option ℕ
common_above t s d = find (λ a. list_any (λ x. x == a) (ancestors t d)) (ancestors t s)

-- a state, or the root where there is none
abbrev pub or_root : Option ℕ → ℕ
or_root None = 0
or_root (Some a) = a

-- the home of a firing: for an outer list the lowest state that is strictly above both the state and the
-- destination, or the root where there is none; for the other lists the state itself
abbrev pub home_of : Tree → ℕ → ListKind → ℕ → ℕ
home_of t s Outer d = or_root (common_above t s d)
home_of t s Inner d = s
home_of t s Default d = s
