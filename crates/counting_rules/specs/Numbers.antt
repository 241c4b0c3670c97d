-- Counters as numbers.
use Rattle.std.specs.Prelude.{◌≡◌, ℕ, ◌-◌, ◌^◌, pos, false}
use Rattle.fixed_point.specs.declared.fitting.Mode.TheVariants.{Saturate}
use Rattle.fixed_point.specs.declared.scale.Scale.{Scale}
use Rattle.actions.specs.declared.expr.Op.TheVariants as ops
use Rattle.actions.specs.declared.names.Sort.TheVariants as sorts
use Rattle.actions.specs.Data.{Datum, with_mantissa}
use Rattle.actions.specs.Exprs.{Expr, Read, Bin}
use Rattle.actions.specs.World.{World}
use Rattle.counting_rules.specs.Counters.{whole}

-- the datum is a counter that has counted to n: a whole number without a sign, which stays at the greatest of its type
pub record IsCounter (d : Datum) (greatest n : ℕ) : Type 0 where
  pub scale : Scale
  pub unsigned : scale.signed ≡ false
  pub whole : scale.frac ≡ 0
  pub top : greatest ≡ 2 ^ scale.width - 1
  pub is : d ≡ record { sort = sorts.Number scale; mode = Saturate; mantissa = pos n }

-- the world in which counter v has counted to n, and all else is the same
abbrev pub with_count : ℕ → ℕ → World → World
with_count v n w = record w { vals = with_mantissa w.vals v (pos n) }

-- the test of `after(n, E)` whose counter is v: it has counted to n or more
abbrev pub has_counted : ℕ → ℕ → Expr
has_counted v n = Bin ops.Ge (Read v) (whole n)
