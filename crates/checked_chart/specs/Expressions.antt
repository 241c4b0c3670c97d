-- What the expressions of a valid chart are: literals in range, and not too many operators.
use Rattle.std.specs.Prelude.{◌≡◌, ◌+◌, ◌^◌, ◌<◌, ◌≤◌, ℕ, pos}
use Rattle.fixed_point.specs.declared.num.Num.{Num}
use Rattle.fixed_point.specs.declared.scale.TheConstants.{PLACES_LIMIT}
use Rattle.actions.specs.Exprs.{Expr, Lit, Flag, Read, Active, Neg, Not, Bin}

-- a literal's mantissa is a whole number below 2^99, and its fraction has at most 32 bits
pub record IsLiteral (n : Num) : Type 0 where
  pub units : ℕ
  pub mantissa : n.mantissa ≡ pos units
  pub small : units < 2 ^ 99
  pub short : n.frac ≤ PLACES_LIMIT

-- every literal of an expression is in range
abbrev pub LiteralsFit : Expr → Type 0
LiteralsFit (Lit n) = IsLiteral n
LiteralsFit (Flag b) = Unit {0}
LiteralsFit (Read v) = Unit {0}
LiteralsFit (Active s) = Unit {0}
LiteralsFit (Neg a) = LiteralsFit a
LiteralsFit (Not a) = LiteralsFit a
LiteralsFit (Bin op a b) = LiteralsFit a × LiteralsFit b

-- how many operators an expression has
abbrev pub operator_count : Expr → ℕ
operator_count (Lit n) = 0
operator_count (Flag b) = 0
operator_count (Read v) = 0
operator_count (Active s) = 0
operator_count (Neg a) = 1 + operator_count a
operator_count (Not a) = 1 + operator_count a
operator_count (Bin op a b) = 1 + operator_count a + operator_count b
