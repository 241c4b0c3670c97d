-- What lies out of a scale's range.
use Rattle.std.proofs.Common.{◌≡◌, ℕ, ◌-◌, ◌<◌, ◌≤◌, ◌^◌, ℤ, pos, neg_ℤ, int_le, unsigned_abs, Bool}
use Rattle.std.proofs.Common.{true, false, cond, if◌then◌else◌, ◌&&◌, None, Some, refl, ap, ◌∙◌, arith}
use Rattle.std.proofs.lemmas.Int.{ints}
use Rattle.fixed_point.specs.Numbers.{floored, is_whole}
use Rattle.fixed_point.specs.Scales.{is_in_range, exact_mantissa}
use Rattle.fixed_point.specs.declared.num.Num.{Num}
use Rattle.fixed_point.proofs.Floors.{floored-raised, scaled-grows}
use Rattle.fixed_point.specs.declared.scale.Scale.{Scale}
use Rattle.fixed_point.proofs.Powers.{power-le}

-- no test of a range of 64 bits passes farther from 0 than 2 ^ 64
far_unsigned : (width : ℕ) (z : ℤ) → width ≤ 64 → 2 ^ 64 < unsigned_abs z
    → (int_le (pos 0) z && int_le z (pos (2 ^ width - 1))) ≡ false
far_unsigned width z bits far = let h = power-le width 64 bits in grind (arith, ints)

-- nor of a signed one
far_signed : (bits : ℕ) (z : ℤ) → bits ≤ 64 → 2 ^ 64 < unsigned_abs z
    → (int_le (neg_ℤ (pos (2 ^ bits))) z && int_le z (pos (2 ^ bits - 1))) ≡ false
far_signed bits z few far = let h = power-le bits 64 few in grind (arith, ints)

-- so of no scale
far_of : (signed : Bool) (width : ℕ) (z : ℤ) → width ≤ 64 → 2 ^ 64 < unsigned_abs z
    → (int_le (cond signed (neg_ℤ (pos (2 ^ (width - 1)))) (pos 0)) z
    && int_le z (cond signed (pos (2 ^ (width - 1) - 1)) (pos (2 ^ width - 1)))) ≡ false
far_of true width z bits far = far_signed (width - 1) z (omega arith) far
far_of false width z bits far = far_unsigned width z bits far

-- what is farther from 0 is out of range
pub is_in_range-far : (scale : Scale) (z : ℤ) → 2 ^ 64 < unsigned_abs z → is_in_range scale z ≡ false
is_in_range-far scale z far = far_of scale.signed scale.width z scale.bits_within far

-- ---- values that a scale doesn't have

-- a failed test gives None
none_where : (b : Bool) (z : ℤ) → b ≡ false → (if b then Some z else None) ≡ None
none_where b z e = ap (λ (b : Bool). if b then Some z else None) e

-- the value is no whole number of steps
pub exact_mantissa-broken : (a : Num) (scale : Scale) → is_whole a scale.frac ≡ false → exact_mantissa a scale ≡ None
unfolding exact_mantissa
exact_mantissa-broken a scale broken =
    none_where (is_whole a scale.frac && is_in_range scale (floored a scale.frac)) (floored a scale.frac)
    (ap (λ (b : Bool). b && is_in_range scale (floored a scale.frac)) broken)

-- the value is too far from 0
pub exact_mantissa-far : (a : Num) (scale : Scale) → a.frac ≤ scale.frac → 2 ^ 64 < unsigned_abs a.mantissa
    → exact_mantissa a scale ≡ None
unfolding exact_mantissa
exact_mantissa-far a scale above far =
    let size = ap (λ (z : ℤ). unsigned_abs z) (floored-raised a scale.frac above) in
    let out = is_in_range-far scale (floored a scale.frac) (omega (arith, scaled-grows a scale.frac)) in
    none_where (is_whole a scale.frac && is_in_range scale (floored a scale.frac)) (floored a scale.frac)
    (ap (λ (b : Bool). is_whole a scale.frac && b) out ∙ and_false (is_whole a scale.frac))
  where
    and_false : (b : Bool) → (b && false) ≡ false
    and_false true = refl
    and_false false = refl
