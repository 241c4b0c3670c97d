-- How many locals the code of an expression sets.
use Rattle.std.specs.Prelude.{ℕ, ◌+◌, ◌==◌, Bool, false, not, if◌then◌else◌}
use Rattle.actions.specs.declared.expr.Op.{Op}
use Rattle.actions.specs.declared.expr.Op.TheVariants as ops
use Rattle.actions.specs.Exprs as exprs
use Rattle.c_subset.specs.Trees.{CExpr, Bang}
use Rattle.actions.specs.Exprs.{Expr}

-- the right side of && or || has code of its own, which is written where the left side doesn't decide
abbrev pub is_lazy : Op → ℕ → Bool
is_lazy ops.Or right = not (right == 0)
is_lazy ops.And right = not (right == 0)
is_lazy ops.Eq right = false
is_lazy ops.Ne right = false
is_lazy ops.Lt right = false
is_lazy ops.Le right = false
is_lazy ops.Gt right = false
is_lazy ops.Ge right = false
is_lazy ops.Add right = false
is_lazy ops.Sub right = false
is_lazy ops.Mul right = false
is_lazy ops.Div right = false

-- the test of the left side, as a local, under which the right side is evaluated
abbrev pub going_on : Op → CExpr → CExpr
going_on ops.Or e = Bang e
going_on ops.And e = e
going_on ops.Eq e = e
going_on ops.Ne e = e
going_on ops.Lt e = e
going_on ops.Le e = e
going_on ops.Gt e = e
going_on ops.Ge e = e
going_on ops.Add e = e
going_on ops.Sub e = e
going_on ops.Mul e = e
going_on ops.Div e = e

-- how many locals an operator sets itself, where its right side sets so many
abbrev pub own_locals : Op → ℕ → ℕ
own_locals ops.Or right = if is_lazy ops.Or right then 1 else 0
own_locals ops.And right = if is_lazy ops.And right then 1 else 0
own_locals ops.Eq right = 0
own_locals ops.Ne right = 0
own_locals ops.Lt right = 0
own_locals ops.Le right = 0
own_locals ops.Gt right = 0
own_locals ops.Ge right = 0
own_locals ops.Add right = 0
own_locals ops.Sub right = 0
own_locals ops.Mul right = 0
own_locals ops.Div right = 2

-- How many locals the code of an expression sets
unfoldable pub locals_of : Expr → ℕ
locals_of (exprs.Lit x) = 0
locals_of (exprs.Flag b) = 0
locals_of (exprs.Read v) = 0
locals_of (exprs.Active q) = 0
locals_of (exprs.Neg a) = locals_of a
locals_of (exprs.Not a) = locals_of a
locals_of (exprs.Bin op a b) = locals_of a + locals_of b + own_locals op (locals_of b)
