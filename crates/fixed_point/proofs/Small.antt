-- What the code computes in 128 bits is exact where the numbers are small.
use Rattle.std.proofs.Common.{◌≡◌, ℕ, zero, suc, ◌-◌, ◌^◌, ◌<◌, ◌≤◌, ℤ, pos, negsuc, neg_ℤ, ◌+ℤ◌, ◌-ℤ◌}
use Rattle.std.proofs.Common.{◌*ℤ◌, unsigned_abs, FitsSigned, Bool, true, false, cond, refl, sym, ap, ◌∙◌, subst, arith}
use Rattle.std.proofs.lemmas.Nat.{pow_pos}
use Rattle.std.proofs.lemmas.Int.{ints, to_z-of_z, fits_signed_from_abs}
use Rattle.std.specs.Int.{w128, cast_signed, cast_unsigned, int_rem_euclid}
use Rattle.fixed_point.specs.Scales.{least}
use Rattle.fixed_point.specs.declared.num.Num.{Num}
use Rattle.fixed_point.specs.declared.scale.Scale.{Scale}
use Rattle.fixed_point.proofs.Powers.{power-le}

-- a number as the code reads it from its bits
abbrev read : ℤ → ℤ
read z = cast_signed w128 (cast_unsigned w128 z)

-- a number of at most 2 ^ 102 in magnitude fits
small_fits : (z : ℤ) → unsigned_abs z ≤ 2 ^ 102 → FitsSigned w128 z
small_fits z small = fits_signed_from_abs w128 z (omega arith)

-- an operation on two numbers that are read is that on the numbers
both_read : (op : ℤ → ℤ → ℤ) (x y : ℤ) → FitsSigned w128 x → FitsSigned w128 y → op (read x) (read y) ≡ op x y
both_read op x y x_fits y_fits =
    ap (λ (z : ℤ). op z (read y)) (to_z-of_z w128 x x_fits) ∙ ap (λ (z : ℤ). op x z) (to_z-of_z w128 y y_fits)

-- a result that is small fits
fits_as : (r z : ℤ) → r ≡ z → unsigned_abs z ≤ 2 ^ 102 → FitsSigned w128 r
fits_as r z e small = subst (λ (z : ℤ). FitsSigned w128 z) (sym e) (small_fits z small)

-- and is read as it is
read_as : (r z : ℤ) → r ≡ z → unsigned_abs z ≤ 2 ^ 102 → read r ≡ z
read_as r z e small = ap (λ (z : ℤ). read z) e ∙ to_z-of_z w128 z (small_fits z small)

-- ---- products

-- the product of two numbers that are read
product_of_read : (x y b : ℤ) → y ≡ b → FitsSigned w128 x → FitsSigned w128 y → read x *ℤ read y ≡ x *ℤ b
product_of_read x y b e x_fits y_fits = both_read ◌*ℤ◌ x y x_fits y_fits ∙ ap (λ (z : ℤ). x *ℤ z) e

-- a small product fits
pub product_fits : (x y b : ℤ) → y ≡ b → FitsSigned w128 x → FitsSigned w128 y → unsigned_abs (x *ℤ b) ≤ 2 ^ 100
    → FitsSigned w128 (read x *ℤ read y)
product_fits x y b e x_fits y_fits small =
    fits_as (read x *ℤ read y) (x *ℤ b) (product_of_read x y b e x_fits y_fits) (omega arith)

-- and is the product
pub product_is : (x y b : ℤ) → y ≡ b → FitsSigned w128 x → FitsSigned w128 y → unsigned_abs (x *ℤ b) ≤ 2 ^ 100
    → read (read x *ℤ read y) ≡ x *ℤ b
product_is x y b e x_fits y_fits small =
    read_as (read x *ℤ read y) (x *ℤ b) (product_of_read x y b e x_fits y_fits) (omega arith)

-- ---- sums and differences

-- a sum is at most as great in magnitude as both together
sum_within : (a b : ℤ) → unsigned_abs a ≤ 2 ^ 100 → unsigned_abs b ≤ 2 ^ 100 → unsigned_abs (a +ℤ b) ≤ 2 ^ 102
sum_within a b a_small b_small = omega (arith, ints)

-- and a difference
difference_within : (a b : ℤ) → unsigned_abs a ≤ 2 ^ 100 → unsigned_abs b ≤ 2 ^ 100 → unsigned_abs (a -ℤ b) ≤ 2 ^ 102
difference_within a b a_small b_small = omega (arith, ints)

-- an operation on two numbers that are read, each small
of_read : (op : ℤ → ℤ → ℤ) (x y a b : ℤ) → x ≡ a → y ≡ b → unsigned_abs a ≤ 2 ^ 100 → unsigned_abs b ≤ 2 ^ 100
    → op (read x) (read y) ≡ op a b
of_read op x y a b x_is y_is a_small b_small =
    ap (λ (z : ℤ). op (read z) (read y)) x_is ∙ ap (λ (z : ℤ). op (read a) (read z)) y_is
    ∙ both_read op a b (small_fits a (omega arith)) (small_fits b (omega arith))

-- a sum of small numbers fits
pub sum_fits : (x y a b : ℤ) → x ≡ a → y ≡ b → unsigned_abs a ≤ 2 ^ 100 → unsigned_abs b ≤ 2 ^ 100
    → FitsSigned w128 (read x +ℤ read y)
sum_fits x y a b x_is y_is a_small b_small =
    fits_as (read x +ℤ read y) (a +ℤ b) (of_read ◌+ℤ◌ x y a b x_is y_is a_small b_small)
    (sum_within a b a_small b_small)

-- and is the sum
pub sum_is : (x y a b : ℤ) → x ≡ a → y ≡ b → unsigned_abs a ≤ 2 ^ 100 → unsigned_abs b ≤ 2 ^ 100
    → read (read x +ℤ read y) ≡ a +ℤ b
sum_is x y a b x_is y_is a_small b_small =
    read_as (read x +ℤ read y) (a +ℤ b) (of_read ◌+ℤ◌ x y a b x_is y_is a_small b_small)
    (sum_within a b a_small b_small)

-- a difference of small numbers fits
pub difference_fits : (x y a b : ℤ) → x ≡ a → y ≡ b → unsigned_abs a ≤ 2 ^ 100 → unsigned_abs b ≤ 2 ^ 100
    → FitsSigned w128 (read x -ℤ read y)
difference_fits x y a b x_is y_is a_small b_small =
    fits_as (read x -ℤ read y) (a -ℤ b) (of_read ◌-ℤ◌ x y a b x_is y_is a_small b_small)
    (difference_within a b a_small b_small)

-- and is the difference
pub difference_is : (x y a b : ℤ) → x ≡ a → y ≡ b → unsigned_abs a ≤ 2 ^ 100 → unsigned_abs b ≤ 2 ^ 100
    → read (read x -ℤ read y) ≡ a -ℤ b
difference_is x y a b x_is y_is a_small b_small =
    read_as (read x -ℤ read y) (a -ℤ b) (of_read ◌-ℤ◌ x y a b x_is y_is a_small b_small)
    (difference_within a b a_small b_small)

-- a number of these parts
abbrev num : ℤ → ℕ → Num
num m f = record { mantissa = m; frac = f }

-- numbers with the same parts
pub same_num : (m n : ℤ) (f g : ℕ) → m ≡ n → f ≡ g → num m f ≡ num n g
same_num m n f g m_is f_is = ap (λ (z : ℤ). num z f) m_is ∙ ap (λ (x : ℕ). num n x) f_is

-- ---- numbers that are wrapped

-- the magnitude of a number that is negated
abs_neg : (n : ℕ) → unsigned_abs (neg_ℤ (pos n)) ≡ n
abs_neg zero = refl
abs_neg (suc n) = refl

-- the least mantissa is at most 2 ^ 64 in magnitude
least_of : (signed : Bool) (width : ℕ) → width ≤ 64
    → unsigned_abs (cond signed (neg_ℤ (pos (2 ^ (width - 1)))) (pos 0)) ≤ 2 ^ 64
least_of true width bits = omega (arith, abs_neg (2 ^ (width - 1)), power-le (width - 1) 64 (omega arith))
least_of false width bits = omega arith

-- it is small
pub least_small : (to : Scale) → unsigned_abs (least to) ≤ 2 ^ 100
least_small to = let h = least_of to.signed to.width to.bits_within in omega arith

-- a rest is at most the divisor
rest_within : (z : ℤ) (n : ℕ) → 0 < n → unsigned_abs (int_rem_euclid z (pos n)) ≤ n
rest_within (pos a) n some = omega arith
rest_within (negsuc a) n some = omega arith

-- a rest by a power of two that is small
pub rest_small : (z : ℤ) (to : Scale) → unsigned_abs (int_rem_euclid z (pos (2 ^ to.width))) ≤ 2 ^ 100
rest_small z to =
    let h = rest_within z (2 ^ to.width) (pow_pos to.width) in
    let k = power-le to.width 64 to.bits_within in
    omega arith

-- a power of two that is read
power_read : (p : ℤ) (k : ℕ) → p ≡ pos (2 ^ k) → FitsSigned w128 p → read p ≡ pos (2 ^ k)
power_read p k e fits = to_z-of_z w128 p fits ∙ e

-- its bits
pub power_bits : (p : ℤ) (k : ℕ) → p ≡ pos (2 ^ k) → FitsSigned w128 p → cast_unsigned w128 (read p) ≡ 2 ^ k
power_bits p k e fits = ap (λ (z : ℤ). cast_unsigned w128 z) (power_read p k e fits)

-- the rest of what is read is the rest that wraps
pub rest_is : (to : Scale) (m low p r : ℤ) → unsigned_abs m ≤ 2 ^ 100 → low ≡ least to → p ≡ pos (2 ^ to.width)
    → FitsSigned w128 p → r ≡ int_rem_euclid (read (read m -ℤ read low)) (read p)
    → r ≡ int_rem_euclid (m -ℤ least to) (pos (2 ^ to.width))
rest_is to m low p r m_small low_is p_is p_fits r_is =
    let same = difference_is m low m (least to) refl low_is m_small (least_small to) in
    r_is ∙ ap (λ (z : ℤ). int_rem_euclid z (read p)) same
    ∙ ap (λ (z : ℤ). int_rem_euclid (m -ℤ least to) z) (power_read p to.width p_is p_fits)
