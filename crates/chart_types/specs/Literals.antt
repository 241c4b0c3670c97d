-- The sorts of literals.
use Rattle.std.specs.Prelude.{◌≤◌}
use Rattle.fixed_point.specs.declared.scale.TheConstants.{PLACES_LIMIT}
use Rattle.actions.specs.declared.sort.ExprSort.{ExprSort}
use Rattle.actions.specs.declared.sort.ExprSort.TheVariants as gives

-- a number with a fraction of at most PLACES_LIMIT bits and a size of at most 99
abbrev pub IsOfLiteral : ExprSort → Type 0
IsOfLiteral gives.Flag = ⊥
IsOfLiteral (gives.Number frac size) = (frac ≤ PLACES_LIMIT) × (size ≤ 99)
