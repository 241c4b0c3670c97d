-- What value an expression has: exact numbers, and operands from left to right.
use Rattle.std.specs.Prelude.{◌≡◌, ◌^◌, ◌≤◌, pos, unsigned_abs, Bool, false, not, ◌&&◌, ◌||◌}
use Rattle.std.specs.Prelude.{List, map, Option, Some, None, Result, Ok, Err, if◌then◌else◌}
use Rattle.std.specs.declared.cmp.Ordering.{Ordering}
use Rattle.std.specs.Ordering.{is_eq, is_lt, is_le, is_gt, is_ge}
use Rattle.flow_base.specs.declared.fault.Fault.{Fault}
use Rattle.flow_base.specs.declared.fault.Fault.TheVariants.{Zero as ZeroDivisor}
use Rattle.fixed_point.specs.declared.num.Num.{Num}
use Rattle.fixed_point.specs.declared.quotient.Zero.{Zero}
use Rattle.fixed_point.specs.Numbers.{sum_of, difference_of, negation_of, product_of, quotient_of, order_of}
use Rattle.active_config.specs.Marks.{Configuration, is_on, mark_count}
use Rattle.actions.specs.declared.expr.Op.{Op}
use Rattle.actions.specs.declared.expr.Op.TheVariants as ops
use Rattle.actions.specs.declared.expr.Value.{Value}
use Rattle.actions.specs.declared.expr.Value.TheVariants.{Flag as FlagValue, Number}
use Rattle.actions.specs.declared.sort.ExprSort.{ExprSort}
use Rattle.actions.specs.declared.sort.ExprSort.TheVariants as kinds
use Rattle.actions.specs.Data.{Datum, datum, value_of_datum}
use Rattle.actions.specs.Exprs.{Expr, Lit, Flag, Read, Active, Neg, Not, Bin}
use Rattle.actions.specs.Sorts.{Scope}

-- a value, or the fault of a zero divisor
abbrev pub Valued : Type 0
Valued = Result Value Fault

-- what f gives for a value; a fault is passed on
abbrev pub with_value : Valued → (Value → Valued) → Valued
with_value (Ok value) f = f value
with_value (Err fault) f = Err fault

-- the flag of a value that is one
abbrev pub flag_of : Value → Bool
flag_of (FlagValue b) = b
flag_of (Number n) = false

-- the number of a value that is one
abbrev pub number_of : Value → Num
number_of (FlagValue b) = record { mantissa = pos 0; frac = 0 }
number_of (Number n) = n

-- a quotient, or the fault of a zero divisor
abbrev pub quotient_value : Result Num Zero → Valued
quotient_value (Ok n) = Ok (Number n)
quotient_value (Err zero) = Err ZeroDivisor

-- two flags are the same
abbrev pub same_flag : Bool → Bool → Bool
same_flag a b = if a then b else not b

-- two flags or two numbers are equal
abbrev pub are_equal : Value → Value → Bool
are_equal (FlagValue a) b = same_flag a (flag_of b)
are_equal (Number a) b = is_eq (order_of a (number_of b))

-- the order of two numbers passes the test
abbrev pub compared : (Ordering → Bool) → Value → Value → Valued
compared passes a b = Ok (FlagValue (passes (order_of (number_of a) (number_of b))))

-- an operator on the values of both sides
abbrev pub applied : Op → Value → Value → Valued
applied ops.Or a b = Ok (FlagValue (flag_of a || flag_of b))
applied ops.And a b = Ok (FlagValue (flag_of a && flag_of b))
applied ops.Eq a b = Ok (FlagValue (are_equal a b))
applied ops.Ne a b = Ok (FlagValue (not (are_equal a b)))
applied ops.Lt a b = compared is_lt a b
applied ops.Le a b = compared is_le a b
applied ops.Gt a b = compared is_gt a b
applied ops.Ge a b = compared is_ge a b
applied ops.Add a b = Ok (Number (sum_of (number_of a) (number_of b)))
applied ops.Sub a b = Ok (Number (difference_of (number_of a) (number_of b)))
applied ops.Mul a b = Ok (Number (product_of (number_of a) (number_of b)))
applied ops.Div a b = quotient_value (quotient_of (number_of a) (number_of b))

-- the left side alone decides: of `||` where it is true, of `&&` where it is false
abbrev pub decides : Op → Value → Bool
decides ops.Or a = flag_of a
decides ops.And a = not (flag_of a)
decides ops.Eq a = false
decides ops.Ne a = false
decides ops.Lt a = false
decides ops.Le a = false
decides ops.Gt a = false
decides ops.Ge a = false
decides ops.Add a = false
decides ops.Sub a = false
decides ops.Mul a = false
decides ops.Div a = false

-- The value of an expression: the left side first, and the right side where the left doesn't decide.
unfoldable pub value_of : List Datum → Configuration → Expr → Valued
value_of vals marks (Lit n) = Ok (Number n)
value_of vals marks (Flag b) = Ok (FlagValue b)
value_of vals marks (Read v) = Ok (value_of_datum (datum vals v))
value_of vals marks (Active s) = Ok (FlagValue (is_on s marks))
value_of vals marks (Neg a) = with_value (value_of vals marks a) (λ x. Ok (Number (negation_of (number_of x))))
value_of vals marks (Not a) = with_value (value_of vals marks a) (λ x. Ok (FlagValue (not (flag_of x))))
value_of vals marks (Bin op a b) = with_value (value_of vals marks a) (λ left.
    if decides op left then Ok left else with_value (value_of vals marks b) (applied op left))

-- the value of an expression without operands
abbrev pub leaf_value : List Datum → Configuration → Expr → Option Value
leaf_value vals marks (Lit n) = Some (Number n)
leaf_value vals marks (Flag b) = Some (FlagValue b)
leaf_value vals marks (Read v) = Some (value_of_datum (datum vals v))
leaf_value vals marks (Active s) = Some (FlagValue (is_on s marks))
leaf_value vals marks (Neg a) = None
leaf_value vals marks (Not a) = None
leaf_value vals marks (Bin op a b) = None

-- what an expression may name where the data and the marks are these
abbrev pub scope_at : List Datum → Configuration → Scope
scope_at vals marks = record { sorts = map (λ (d : Datum). d.sort) vals; states = mark_count marks }

-- a value of the sort: a flag, or a number of that fraction and size
abbrev pub HasSort : ExprSort → Value → Type 0
HasSort kinds.Flag (FlagValue b) = Unit {0}
HasSort kinds.Flag (Number n) = ⊥
HasSort (kinds.Number frac size) (FlagValue b) = ⊥
HasSort (kinds.Number frac size) (Number n) = (n.frac ≡ frac) × (unsigned_abs n.mantissa ≤ 2 ^ size)
