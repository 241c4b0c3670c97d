-- What is known of the value of an expression where each datum is in a span.
use Rattle.std.specs.Prelude.{◌≡◌, ◌+◌, ◌-◌, ℕ, max, pos, ◌+ℤ◌, ◌-ℤ◌, neg_ℤ, Bool, true, false, not, ◌&&◌}
use Rattle.std.specs.Prelude.{◌||◌}
use Rattle.std.specs.Prelude.{int_lt, int_le, if◌then◌else◌, Ok, Err}
use Rattle.flow_base.specs.declared.fault.Fault.TheVariants.{Zero}
use Rattle.fixed_point.specs.Numbers.{floor_div}
use Rattle.active_config.specs.Marks.{Configuration, is_on}
use Rattle.actions.specs.declared.expr.Op.{Op}
use Rattle.actions.specs.declared.expr.Op.TheVariants as ops
use Rattle.actions.specs.declared.expr.Value.{Value}
use Rattle.actions.specs.declared.expr.Value.TheVariants as values
use Rattle.actions.specs.declared.names.Sort.{Sort}
use Rattle.actions.specs.declared.names.Sort.TheVariants as sorts
use Rattle.actions.specs.Exprs.{Expr, Lit, Flag, Read, Active, Neg, Not, Bin}
use Rattle.actions.specs.Values.{Valued}
pub use Rattle.range_spans.specs.declared.known.Known.{Known}
pub use Rattle.range_spans.specs.declared.known.Known.TheVariants.{Truth, Number, Nothing}
pub use Rattle.range_spans.specs.declared.known.Guess.{Guess}
use Rattle.range_spans.specs.Narrow.{right_box}
use Rattle.range_spans.specs.Spans.{Span, IsIn, around_zero, magnitude, raised, products}

-- the value is one of those
abbrev pub Has : Known → Value → Type 0
Has (Truth f t) (values.Flag b) = (if b then t else f) ≡ true
Has (Truth f t) (values.Number n) = ⊥
Has (Number s frac) (values.Flag b) = ⊥
Has (Number s frac) (values.Number n) = (n.frac ≡ frac) × IsIn s n.mantissa
Has Nothing value = Unit {0}

-- the value, or the fault, is one of those
abbrev pub Tells : Guess → Valued → Type 0
Tells g (Ok value) = Has g.known value
Tells g (Err x) = (x ≡ Zero) × (g.zero ≡ true)

-- ---- operators

-- the negation of a flag
abbrev pub not_known : Known → Known
not_known (Truth f t) = Truth t f
not_known (Number s frac) = Nothing
not_known Nothing = Nothing

-- the negation of a number
abbrev pub neg_known : Known → Known
neg_known (Truth f t) = Nothing
neg_known (Number s frac) = Number (record { low = neg_ℤ s.high; high = neg_ℤ s.low }) frac
neg_known Nothing = Nothing

-- an operator of two flags
abbrev pub of_flags : (Bool → Bool → Bool → Bool → Known) → Known → Known → Known
of_flags op (Truth f t) (Truth g u) = op f t g u
of_flags op (Truth f t) (Number s frac) = Nothing
of_flags op (Truth f t) Nothing = Nothing
of_flags op (Number s frac) k = Nothing
of_flags op Nothing k = Nothing

-- an operator of two numbers
abbrev pub of_numbers : (Span → ℕ → Span → ℕ → Known) → Known → Known → Known
of_numbers op (Number s f) (Number t g) = op s f t g
of_numbers op (Number s f) (Truth g u) = Nothing
of_numbers op (Number s f) Nothing = Nothing
of_numbers op (Truth f t) k = Nothing
of_numbers op Nothing k = Nothing

-- of numbers at their greater fraction
abbrev pub at_common : (Span → Span → ℕ → Known) → Span → ℕ → Span → ℕ → Known
at_common op s f t g = op (raised s (max f g - f)) (raised t (max f g - g)) (max f g)

-- sums at one fraction
abbrev pub sum_known : Span → Span → ℕ → Known
sum_known s t frac = Number (record { low = s.low +ℤ t.low; high = s.high +ℤ t.high }) frac

-- differences at one fraction
abbrev pub difference_known : Span → Span → ℕ → Known
difference_known s t frac = Number (record { low = s.low -ℤ t.high; high = s.high -ℤ t.low }) frac

-- products, which have the sum of the fractions
abbrev pub product_known : Span → ℕ → Span → ℕ → Known
product_known s f t g = Number (products s t) (f + g)

-- a quotient of a number of a span: by one number above 0, and by any other
abbrev pub quotients : Span → Span → Span
quotients s t =
    if int_le t.high t.low && int_lt (pos 0) t.low
    then record { low = floor_div s.low t.low; high = floor_div s.high t.low } else around_zero (magnitude s)

-- quotients, at the greater fraction
abbrev pub quotient_known : Span → ℕ → Span → ℕ → Known
quotient_known s f t g = Number (quotients (raised s ((max f g - f) + g)) t) (max f g)

-- whether a number of the first span is less than one of the second
abbrev pub lt_known : Span → Span → ℕ → Known
lt_known s t frac = Truth (int_le t.low s.high) (int_lt s.low t.high)

-- the same with equal ones
abbrev pub le_known : Span → Span → ℕ → Known
le_known s t frac = Truth (int_lt t.low s.high) (int_le s.low t.high)

-- the other way round
abbrev pub gt_known : Span → Span → ℕ → Known
gt_known s t frac = lt_known t s frac

-- the other way round, with equal ones
abbrev pub ge_known : Span → Span → ℕ → Known
ge_known s t frac = le_known t s frac

-- whether two numbers are equal
abbrev pub eq_known : Span → Span → ℕ → Known
eq_known s t frac =
    Truth (not (int_le s.high t.low && int_le t.high s.low)) (int_le s.low t.high && int_le t.low s.high)

-- whether two flags are equal
abbrev pub same_known : Bool → Bool → Bool → Bool → Known
same_known f t g u = Truth ((f && u) || (t && g)) ((f && g) || (t && u))

-- whether two flags or two numbers are equal
abbrev pub of_equal : Known → Known → Known
of_equal (Truth f t) k = of_flags same_known (Truth f t) k
of_equal (Number s frac) k = of_numbers (at_common eq_known) (Number s frac) k
of_equal Nothing k = Nothing

-- what is known of the value of an operator of two numbers at one fraction
abbrev pub aligned_known : Op → Span → Span → ℕ → Known
aligned_known ops.Or s t frac = Nothing
aligned_known ops.And s t frac = Nothing
aligned_known ops.Eq s t frac = eq_known s t frac
aligned_known ops.Ne s t frac = not_known (eq_known s t frac)
aligned_known ops.Lt s t frac = lt_known s t frac
aligned_known ops.Le s t frac = le_known s t frac
aligned_known ops.Gt s t frac = gt_known s t frac
aligned_known ops.Ge s t frac = ge_known s t frac
aligned_known ops.Add s t frac = sum_known s t frac
aligned_known ops.Sub s t frac = difference_known s t frac
aligned_known ops.Mul s t frac = Nothing
aligned_known ops.Div s t frac = Nothing

-- what is known of an operator's value
abbrev pub of_operator : Op → Known → Known → Known
of_operator ops.Or a b = of_flags (λ f t g u. Truth (f && g) (t || u)) a b
of_operator ops.And a b = of_flags (λ f t g u. Truth (f || g) (t && u)) a b
of_operator ops.Eq a b = of_equal a b
of_operator ops.Ne a b = not_known (of_equal a b)
of_operator ops.Lt a b = of_numbers (at_common lt_known) a b
of_operator ops.Le a b = of_numbers (at_common le_known) a b
of_operator ops.Gt a b = of_numbers (at_common gt_known) a b
of_operator ops.Ge a b = of_numbers (at_common ge_known) a b
of_operator ops.Add a b = of_numbers (at_common sum_known) a b
of_operator ops.Sub a b = of_numbers (at_common difference_known) a b
of_operator ops.Mul a b = of_numbers product_known a b
of_operator ops.Div a b = of_numbers quotient_known a b

-- a number may be 0
abbrev pub may_be_zero : Known → Bool
may_be_zero (Truth f t) = true
may_be_zero (Number s frac) = int_le s.low (pos 0) && int_le (pos 0) s.high
may_be_zero Nothing = true

-- an operator may divide by 0
abbrev pub divides_by_zero : Op → Known → Bool
divides_by_zero ops.Or b = false
divides_by_zero ops.And b = false
divides_by_zero ops.Eq b = false
divides_by_zero ops.Ne b = false
divides_by_zero ops.Lt b = false
divides_by_zero ops.Le b = false
divides_by_zero ops.Gt b = false
divides_by_zero ops.Ge b = false
divides_by_zero ops.Add b = false
divides_by_zero ops.Sub b = false
divides_by_zero ops.Mul b = false
divides_by_zero ops.Div b = may_be_zero b

-- what is known of the value where both sides are known
abbrev pub applied_guess : Op → Guess → Guess → Guess
applied_guess op g h = record {
  known = of_operator op g.known h.known;
  zero = g.zero || h.zero || divides_by_zero op h.known;
}

-- ---- expressions

-- a datum of a sort with its mantissa in a span
abbrev pub of_sort : Sort → Span → Known
of_sort sorts.Flag s = Truth (int_le s.low (pos 0)) (int_lt (pos 0) s.high)
of_sort (sorts.Number scale) s = Number s scale.frac

-- what is known of the value of an expression, where data have these sorts and spans
unfoldable pub guess : (ℕ → Sort) → (ℕ → Span) → Configuration → Expr → Guess
guess sort box marks (Lit n) = record {
  known = Number (record { low = n.mantissa; high = n.mantissa }) n.frac;
  zero =
      false;
}
guess sort box marks (Flag b) = record { known = Truth (not b) b; zero = false }
guess sort box marks (Read v) = record { known = of_sort (sort v) (box v); zero = false }
guess sort box marks (Active s) = record { known = Truth (not (is_on s marks)) (is_on s marks); zero = false }
guess sort box marks (Neg a) =
    let g = guess sort box marks a in record { known = neg_known g.known; zero = g.zero }
guess sort box marks (Not a) =
    let g = guess sort box marks a in record { known = not_known g.known; zero = g.zero }
guess sort box marks (Bin op a b) =
    let g = guess sort box marks a in let h = guess sort (right_box sort op a box) marks b in
    record { known = of_operator op g.known h.known; zero = g.zero || h.zero || divides_by_zero op h.known }
