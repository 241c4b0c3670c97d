-- Expressions without quotients have values, and data that don't fault by overflow take them.
use Rattle.std.proofs.Common.{◌≡◌, ℕ, ℤ, Bool, true, false, cond, ◌||◌, List, Result, Ok, Err, refl}
use Rattle.fixed_point.specs.declared.fitting.Mode.{Mode}
use Rattle.fixed_point.specs.declared.fitting.Mode.TheVariants.{Saturate, Wrap, Error}
use Rattle.fixed_point.specs.declared.fitting.Overflow.{Overflow}
use Rattle.fixed_point.specs.declared.num.Num.{Num}
use Rattle.fixed_point.specs.declared.quotient.Zero.{Zero}
use Rattle.fixed_point.specs.declared.scale.Scale.{Scale}
use Rattle.fixed_point.specs.Numbers.{floored, quotient_of}
use Rattle.fixed_point.specs.Scales.{by_mode, is_in_range, fitted}
use Rattle.active_config.specs.Marks.{Configuration}
use Rattle.actions.specs.declared.expr.Op.{Op}
use Rattle.actions.specs.declared.expr.Op.TheVariants as ops
use Rattle.actions.specs.declared.expr.Value.{Value}
use Rattle.actions.specs.declared.expr.Value.TheVariants as values
use Rattle.actions.specs.declared.names.Sort.{Sort}
use Rattle.actions.specs.declared.names.Sort.TheVariants as sorts
use Rattle.actions.specs.Data.{Datum, datum, assigned, keep, kept, kept_number, CanTake}
use Rattle.actions.specs.Exprs.{Expr, Lit, Flag, Read, Active, Neg, Not, Bin}
use Rattle.actions.specs.Values.{Valued, with_value, number_of, quotient_value, applied, decides, value_of}
use Rattle.c_functions.specs.Failing.{is_quotient, divides, is_error}
use Rattle.c_functions.proofs.NotesLemmas.{or-right}

pub or-left : (a b : Bool) → a ≡ true → (a || b) ≡ true
or-left true b e = refl
or-left false b e = absurd cc

-- a result is a fault only where that can be
abbrev pub FailsBy : {A E : Type 0} → Bool → Result A E → Type 0
FailsBy d (Ok a) = Unit {0}
FailsBy d (Err x) = d ≡ true

-- ---- values

more-fail : (d d' : Bool) (r : Valued) → (d ≡ true → d' ≡ true) → FailsBy d r → FailsBy d' r
more-fail d d' (Ok v) up h = tt
more-fail d d' (Err x) up h = up h

with_value-fails : (d : Bool) (r : Valued) (f : Value → Valued) → FailsBy d r → ((v : Value) → FailsBy d (f v))
    → FailsBy d (with_value r f)
with_value-fails d (Ok v) f h k = k v
with_value-fails d (Err x) f h k = h

quotient-fails : (r : Result Num Zero) → FailsBy true (quotient_value r)
quotient-fails (Ok x) = tt
quotient-fails (Err z) = refl

-- an operator fails only where it is `/`
applied-fails : (op : Op) (a b : Value) → FailsBy (is_quotient op) (applied op a b)
applied-fails ops.Or a b = tt
applied-fails ops.And a b = tt
applied-fails ops.Eq a b = tt
applied-fails ops.Ne a b = tt
applied-fails ops.Lt a b = tt
applied-fails ops.Le a b = tt
applied-fails ops.Gt a b = tt
applied-fails ops.Ge a b = tt
applied-fails ops.Add a b = tt
applied-fails ops.Sub a b = tt
applied-fails ops.Mul a b = tt
applied-fails ops.Div a b = quotient-fails (quotient_of (number_of a) (number_of b))

either-fails : (d b : Bool) (r s : Valued) → FailsBy d r → FailsBy d s → FailsBy d (cond b r s)
either-fails d true r s h k = h
either-fails d false r s h k = k

-- an expression fails only where it divides
pub value-fails : (vals : List Datum) (marks : Configuration) (x : Expr) → FailsBy (divides x) (value_of vals marks x)
unfolding value_of divides
value-fails vals marks (Lit n) = tt
value-fails vals marks (Flag b) = tt
value-fails vals marks (Read v) = tt
value-fails vals marks (Active s) = tt
value-fails vals marks (Neg a) =
    with_value-fails (divides a) (value_of vals marks a) _ (value-fails vals marks a) (λ v. tt)
value-fails vals marks (Not a) =
    with_value-fails (divides a) (value_of vals marks a) _ (value-fails vals marks a) (λ v. tt)
value-fails vals marks (Bin op a b) =
    let d = is_quotient op || (divides a || divides b) in
    with_value-fails d (value_of vals marks a) _
    (more-fail (divides a) d (value_of vals marks a)
    (λ e. or-right (is_quotient op) (divides a || divides b) (or-left (divides a) (divides b) e))
    (value-fails vals marks a))
    (λ left. either-fails d (decides op left) (Ok left) _ tt
    (with_value-fails d (value_of vals marks b) (applied op left)
    (more-fail (divides b) d (value_of vals marks b)
    (λ e. or-right (is_quotient op) (divides a || divides b) (or-right (divides a) (divides b) e))
    (value-fails vals marks b))
    (λ v. more-fail (is_quotient op) d (applied op left v)
    (λ e. or-left (is_quotient op) (divides a || divides b) e) (applied-fails op left v))))

-- ---- assignments

by_mode-fails : (mode : Mode) (scale : Scale) (m : ℤ) → FailsBy (is_error mode) (by_mode mode scale m)
by_mode-fails Saturate scale m = tt
by_mode-fails Wrap scale m = tt
by_mode-fails Error scale m = refl

one-fails : (d b : Bool) (r s : Result ℤ Overflow) → FailsBy d r → FailsBy d s → FailsBy d (cond b r s)
one-fails d true r s h k = h
one-fails d false r s h k = k

-- a number is fitted, or the mode is Error
fitted-fails : (n : Num) (scale : Scale) (mode : Mode) → FailsBy (is_error mode) (fitted n scale mode)
unfolding fitted
fitted-fails n scale mode =
    one-fails (is_error mode) (is_in_range scale (floored n scale.frac)) (Ok (floored n scale.frac))
    (by_mode mode scale (floored n scale.frac)) tt (by_mode-fails mode scale (floored n scale.frac))

number-fails : (n : Num) (sort : Sort) (mode : Mode) → CanTake sort (values.Number n)
    → FailsBy (is_error mode) (kept_number n sort mode)
number-fails n sorts.Flag mode can = absurd can
number-fails n (sorts.Number scale) mode can = fitted-fails n scale mode

kept-fails : (value : Value) (d : Datum) → CanTake d.sort value → FailsBy (is_error d.mode) (kept value d)
kept-fails (values.Flag b) d can = tt
kept-fails (values.Number n) d can = number-fails n d.sort d.mode can

keep-fails : (vals : List Datum) (v : ℕ) (d : Bool) (r : Result ℤ Overflow) → FailsBy d r → FailsBy d (keep vals v r)
keep-fails vals v d (Ok m) h = tt
keep-fails vals v d (Err x) h = h

-- an assignment of a value that the datum can take fails only where the mode is Error
pub assigned-fails : (vals : List Datum) (v : ℕ) (value : Value) → CanTake (datum vals v).sort value
    → FailsBy (is_error (datum vals v).mode) (assigned vals v value)
unfolding assigned
assigned-fails vals v value can =
    keep-fails vals v (is_error (datum vals v).mode) (kept value (datum vals v)) (kept-fails value (datum vals v) can)
