-- Faults of expressions, which name nothing but what is declared.
use Rattle.std.proofs.Common.{Bool, true, false, cond, List}
use Rattle.std.proofs.Common.{Some, Result, Ok, Err}
use Rattle.flow_base.specs.declared.fault.Fault.{Fault}
use Rattle.fixed_point.specs.declared.num.Num.{Num}
use Rattle.fixed_point.specs.declared.quotient.Zero.{Zero}
use Rattle.fixed_point.specs.Numbers.{quotient_of}
use Rattle.active_config.specs.Marks.{Configuration}
use Rattle.actions.specs.declared.expr.Op.{Op}
use Rattle.actions.specs.declared.expr.Op.TheVariants as ops
use Rattle.actions.specs.declared.expr.Value.{Value}
use Rattle.actions.specs.Data.{Datum}
use Rattle.actions.specs.Engines.{IsFaultOf}
use Rattle.actions.specs.Exprs.{Expr, Lit, Flag, Read, Active, Neg, Not, Bin}
use Rattle.actions.specs.Names.{Names}
use Rattle.actions.specs.Values.{Valued, with_value, number_of, quotient_value, applied, decides, value_of}
use Rattle.actions.specs.World.{World}
use Rattle.actions.specs.Changes.{truth, truth_of}

-- P holds of what is given, and a fault is one of what is declared
abbrev pub Gives : Names → {A : Type 0} → (A → Type 0) → Result A Fault → Type 0
Gives n P (Ok a) = P a
Gives n P (Err x) = IsFaultOf n (Some x)

-- anything will do
abbrev pub Any : {A : Type 0} → A → Type 0
Any a = Unit {0}

-- ---- values

module _ (n : Names) where
  -- an expression is a value or faults by a zero divisor
  with_value_gives : (r : Valued) (f : Value → Valued) → Gives n Any r → ((v : Value) → Gives n Any (f v))
      → Gives n Any (with_value r f)
  with_value_gives (Ok v) f h k = k v
  with_value_gives (Err x) f h k = h

  -- a quotient is a number or the fault of a zero divisor
  quotient_gives : (r : Result Num Zero) → Gives n Any (quotient_value r)
  quotient_gives (Ok x) = tt
  quotient_gives (Err z) = tt

  -- an operator faults by a zero divisor alone
  applied_gives : (op : Op) (a b : Value) → Gives n Any (applied op a b)
  applied_gives ops.Or a b = tt
  applied_gives ops.And a b = tt
  applied_gives ops.Eq a b = tt
  applied_gives ops.Ne a b = tt
  applied_gives ops.Lt a b = tt
  applied_gives ops.Le a b = tt
  applied_gives ops.Gt a b = tt
  applied_gives ops.Ge a b = tt
  applied_gives ops.Add a b = tt
  applied_gives ops.Sub a b = tt
  applied_gives ops.Mul a b = tt
  applied_gives ops.Div a b = quotient_gives (quotient_of (number_of a) (number_of b))

  -- one of two values
  either_gives : (b : Bool) (r s : Valued) → Gives n Any r → Gives n Any s → Gives n Any (cond b r s)
  either_gives true r s h k = h
  either_gives false r s h k = k

  -- so does a whole expression
  pub value_gives : (vals : List Datum) (marks : Configuration) (e : Expr) → Gives n Any (value_of vals marks e)
  unfolding value_of
  value_gives vals marks (Lit x) = tt
  value_gives vals marks (Flag b) = tt
  value_gives vals marks (Read v) = tt
  value_gives vals marks (Active s) = tt
  value_gives vals marks (Neg a) = with_value_gives (value_of vals marks a) _ (value_gives vals marks a) (λ v. tt)
  value_gives vals marks (Not a) = with_value_gives (value_of vals marks a) _ (value_gives vals marks a) (λ v. tt)
  value_gives vals marks (Bin op a b) =
      with_value_gives (value_of vals marks a) _ (value_gives vals marks a)
      (λ left. either_gives (decides op left) (Ok left) _ tt
      (with_value_gives (value_of vals marks b) (applied op left) (value_gives vals marks b) (applied_gives op left)))

  -- a value as a flag
  truth_gives : (r : Valued) → Gives n Any r → Gives n Any (truth r)
  truth_gives (Ok x) h = tt
  truth_gives (Err x) h = h

  -- so is a test
  pub test_gives : (e : Expr) (w : World) → Gives n Any (truth_of e w)
  unfolding truth_of
  test_gives e w = truth_gives (value_of w.vals w.marks e) (value_gives w.vals w.marks e)
