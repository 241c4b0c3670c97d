-- Powers of two and of ten, and products with them.
use Rattle.std.proofs.Common.{◌≡◌, ℕ, zero, suc, ◌+◌, ◌-◌, ◌*◌, ◌^◌, ◌<◌, ◌≤◌, ℤ, pos, negsuc}
use Rattle.std.proofs.Common.{neg_ℤ, ◌*ℤ◌, unsigned_abs, FitsSigned, refl, ap, ◌∙◌, ⊎_elim, arith}
use Rattle.std.proofs.lemmas.Nat.{pow-add, pow_below, mul-le}
use Rattle.std.proofs.Math.Nat.{one-le-pow, pow-le-pow_right}
use Rattle.std.proofs.lemmas.Bool.{cases_lt}
use Rattle.std.proofs.lemmas.Int.{unsigned_abs-mul}
use Rattle.std.specs.Int.{w128, cast_unsigned}

-- a factor of at least 1 leaves a power at most as great
pub power_within : (n e m : ℕ) → 0 < n → n * 2 ^ e ≤ 2 ^ m → e ≤ m
power_within n e m some fits =
    ⊎_elim (λ over. absurd (omega (arith, pow_below m e over, mul-le 1 (2 ^ e) n (2 ^ e) some (omega arith))))
    (λ h. h) (cases_lt m e)

-- the same of a whole number that isn't 0
pub power_within_of : (z : ℤ) (e m : ℕ) → 0 < unsigned_abs z → unsigned_abs (z *ℤ pos (2 ^ e)) ≤ 2 ^ m → e ≤ m
power_within_of z e m some fits =
    power_within (unsigned_abs z) e m some (omega (arith, unsigned_abs-mul z (pos (2 ^ e))))

-- the product of a negative number: -(a + 1) * n is -(a * n + n - 1 + 1)
pub product_negsuc : (a n : ℕ) → 0 < n → negsuc a *ℤ pos n ≡ negsuc (a * n + (n - 1))
product_negsuc a n some =
    let e : suc a * n ≡ suc (a * n + (n - 1)) = omega arith in
    ap (λ (x : ℕ). neg_ℤ (pos x)) e

-- a product with 1 is the number
pub product_one : (z : ℤ) → z *ℤ pos 1 ≡ z
product_one (pos a) = let e : a * 1 ≡ a = omega arith in ap pos e
product_one (negsuc a) = let e : a * 1 + (1 - 1) ≡ a = omega arith in product_negsuc a 1 (omega arith) ∙ ap negsuc e

-- a product with a power is a product with both parts of it
pub product_split : (a f d : ℕ) → a * 2 ^ (f + d) ≡ (a * 2 ^ d) * 2 ^ f
product_split a f d = omega (arith, ap (λ (x : ℕ). a * x) (pow-add 2 f d))

-- a whole number whose bits aren't all 0
pub abs_positive : (z : ℤ) → (cast_unsigned w128 z ≡ 0 → ⊥) → 0 < unsigned_abs z
abs_positive (pos zero) other = absurd (other refl)
abs_positive (pos (suc n)) other = omega arith
abs_positive (negsuc n) other = omega arith

-- a whole number whose bits are all 0
pub zero_from_bits : (z : ℤ) → FitsSigned w128 z → cast_unsigned w128 z ≡ 0 → z ≡ pos 0
zero_from_bits (pos n) fits e = ap pos e
zero_from_bits (negsuc n) fits e = absurd (omega (arith, fits.sfits))

-- the magnitude of a number of 128 bits
pub abs_within : (z : ℤ) → FitsSigned w128 z → unsigned_abs z ≤ 2 ^ 127
abs_within (pos n) fits = omega (arith, fits.sfits)
abs_within (negsuc n) fits = omega (arith, fits.sfits)

-- powers of two in their order
pub power-le : (i j : ℕ) → i ≤ j → 2 ^ i ≤ 2 ^ j
power-le i j h = let two : 0 < 2 = omega arith in pow-le-pow_right {n = 2} two {i = i} {j = j} h

-- powers of ten in their order
pub ten_power-le : (i j : ℕ) → i ≤ j → 10 ^ i ≤ 10 ^ j
ten_power-le i j h = let ten : 0 < 10 = omega arith in pow-le-pow_right {n = 10} ten {i = i} {j = j} h

-- a power of ten is at least 1
pub ten_some : (k : ℕ) → 0 < 10 ^ k
ten_some k = one-le-pow k 10 (omega arith)
