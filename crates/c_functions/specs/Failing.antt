-- Which instructions can fail, and that the results of procedures with such instructions are tested.
use Rattle.std.specs.Prelude.{◌≡◌, ℕ, Some, Bool, true, false, ◌||◌}
use Rattle.fixed_point.specs.declared.fitting.Mode.{Mode}
use Rattle.fixed_point.specs.declared.fitting.Mode.TheVariants.{Saturate, Wrap, Error}
use Rattle.actions.specs.declared.expr.Op.{Op}
use Rattle.actions.specs.declared.expr.Op.TheVariants as ops
use Rattle.actions.specs.Exprs.{Expr}
use Rattle.actions.specs.Exprs as exprs
use Rattle.actions.specs.Names.{Names}
use Rattle.code_language.specs.Code.{Code, fetch}
use Rattle.code_language.specs.Instrs.{Cond, Instr}
use Rattle.code_language.specs.Instrs as i
use Rattle.c_functions.specs.Plans.{Tests, declared_at}

-- the operator is `/`
abbrev pub is_quotient : Op → Bool
is_quotient ops.Or = false
is_quotient ops.And = false
is_quotient ops.Eq = false
is_quotient ops.Ne = false
is_quotient ops.Lt = false
is_quotient ops.Le = false
is_quotient ops.Gt = false
is_quotient ops.Ge = false
is_quotient ops.Add = false
is_quotient ops.Sub = false
is_quotient ops.Mul = false
is_quotient ops.Div = true

-- a quotient stands in the expression
unfoldable pub divides : Expr → Bool
divides (exprs.Lit n) = false
divides (exprs.Flag b) = false
divides (exprs.Read v) = false
divides (exprs.Active s) = false
divides (exprs.Neg a) = divides a
divides (exprs.Not a) = divides a
divides (exprs.Bin op a b) = is_quotient op || (divides a || divides b)

-- a number out of range is a fault
abbrev pub is_error : Mode → Bool
is_error Saturate = false
is_error Wrap = false
is_error Error = true

-- a condition can fail
abbrev pub cond_can_fail : Cond → Bool
cond_can_fail (i.On s) = false
cond_can_fail (i.Bare s) = false
cond_can_fail i.OnHome = false
cond_can_fail i.BareHome = false
cond_can_fail (i.Current e) = false
cond_can_fail (i.Result r) = false
cond_can_fail (i.Test x) = divides x
cond_can_fail (i.Last s) = false

-- An instruction can fail by a fault that is tested: by itself, or as it calls a procedure whose result is tested. The
-- number is that of the procedure of reactions.
abbrev pub can_fail : Tests → Names → ℕ → Instr → Bool
can_fail T n react (i.Assign v x) = is_error (declared_at n v).mode || divides x
can_fail T n react (i.Emit e) = T.steps
can_fail T n react (i.Mark s) = false
can_fail T n react (i.Clear s) = false
can_fail T n react (i.Keep s) = false
can_fail T n react (i.Unless k c) = cond_can_fail c
can_fail T n react (i.Skip k) = false
can_fail T n react (i.Call p tag) = T.after p
can_fail T n react (i.Visit p tag) = T.steps || T.after p
can_fail T n react (i.Send e) = T.steps || (T.depth || T.after react)
can_fail T n react (i.SendTo e s p) = T.steps || (T.depth || T.after p)
can_fail T n react i.Play = true
can_fail T n react (i.Home s) = false
can_fail T n react i.Begin = false
can_fail T n react i.Pass = false
can_fail T n react (i.Ret r) = false

-- the result of each procedure with an instruction that can fail is tested
pub record AfterIsRight (T : Tests) (k : Code) : Type 0 where
  pub tested : (p j : ℕ) (x : Instr) → fetch k.procedures p j ≡ Some x
      → can_fail T k.names k.procedures.react x ≡ true → T.after p ≡ true
