-- Where a mantissa with more bits is at most 2 ^ 100 in magnitude.
use Rattle.std.proofs.Common.{◌≡◌, ℕ, ◌-◌, ◌/◌, ◌*◌, ◌^◌, ◌<◌, ◌≤◌, max, ℤ, pos, ◌*ℤ◌, Bool, false}
use Rattle.std.proofs.Common.{unsigned_abs, ◌↔◌, IsTrue, ap, sym, ◌∙◌, arith}
use Rattle.std.proofs.Math.Dec.{leb}
use Rattle.std.proofs.Math.Nat.{le-div_iff_mul-le}
use Rattle.std.proofs.lemmas.Bool.{le-leb, leb-true, false≢true}
use Rattle.std.proofs.lemmas.Nat.{pow_pos}
use Rattle.std.proofs.lemmas.Int.{unsigned_abs-mul}
use Rattle.fixed_point.specs.Numbers.{scaled, common_frac, CanAlign}
use Rattle.fixed_point.specs.declared.num.Num.{Num}
use Rattle.fixed_point.proofs.Powers.{power_within_of}

-- exactly where its magnitude is at most 2 ^ 100 without as many bits
pub room_by_quotient : (z : ℤ) (bits n : ℕ) → n ≡ unsigned_abs z
    → IsTrue (leb n (2 ^ 100 / 2 ^ bits)) ↔ (unsigned_abs (z *ℤ pos (2 ^ bits)) ≤ 2 ^ 100)
room_by_quotient z bits n is =
    let by_product = le-div_iff_mul-le {k = 2 ^ bits} {x = n} {y = 2 ^ 100} (pow_pos bits) in
    let e : n * 2 ^ bits ≡ unsigned_abs (z *ℤ pos (2 ^ bits)) =
    ap (λ (x : ℕ). x * 2 ^ bits) is ∙ sym (unsigned_abs-mul z (pos (2 ^ bits))) in
    ((λ h. let small = by_product.0 (leb-true n (2 ^ 100 / 2 ^ bits) h) in omega arith), (λ h. le-leb n (2 ^ 100 / 2 ^ bits) (by_product.1 (omega arith))))

-- never with over 100 bits, unless it is 0
pub room_for_bits : (z : ℤ) (bits : ℕ) → 0 < unsigned_abs z → 100 < bits
    → IsTrue (leb bits 100) ↔ (unsigned_abs (z *ℤ pos (2 ^ bits)) ≤ 2 ^ 100)
room_for_bits z bits some over =
    ((λ h. absurd (omega (arith, leb-true bits 100 h))), (λ h. le-leb bits 100 (power_within_of z bits 100 some h)))

-- ---- two numbers at the greater of their fractions

-- the size of the number that has mantissa x, at fraction m
size_same : (a : Num) (x : ℤ) (m n : ℕ) → x ≡ a.mantissa → m ≡ n
    → unsigned_abs (x *ℤ pos (2 ^ (m - a.frac))) ≡ unsigned_abs (scaled a n)
size_same a x m n x_is m_is =
    ap (λ (z : ℤ). unsigned_abs (z *ℤ pos (2 ^ (m - a.frac)))) x_is
    ∙ ap (λ (k : ℕ). unsigned_abs (a.mantissa *ℤ pos (2 ^ (k - a.frac)))) m_is

-- the first number has room there: then the second decides
pub align_both : (a b : Num) (x y : ℤ) (m : ℕ) (q : Bool) → x ≡ a.mantissa → y ≡ b.mantissa → m ≡ max a.frac b.frac
    → m ≤ 64 → unsigned_abs (x *ℤ pos (2 ^ (m - a.frac))) ≤ 2 ^ 100
    → IsTrue q ↔ (unsigned_abs (y *ℤ pos (2 ^ (m - b.frac))) ≤ 2 ^ 100) → IsTrue q ↔ CanAlign a b
align_both a b x y m q x_is y_is m_is few left right =
    let a_same = size_same a x m (common_frac a b) x_is m_is in
    let b_same = size_same b y m (common_frac a b) y_is m_is in (
      (λ h. let room = right.0 h in record {
        left_frac = omega arith;
        right_frac = omega arith;
        left_size = omega arith;
        right_size = omega arith;
      }),
      (λ can. let size = can.right_size in right.1 (omega arith)),
    )

-- the first number of two that have a sum has room there
pub align_left : (a b : Num) (x : ℤ) (m : ℕ) (p : Bool) → x ≡ a.mantissa → m ≡ max a.frac b.frac
    → IsTrue p ↔ (unsigned_abs (x *ℤ pos (2 ^ (m - a.frac))) ≤ 2 ^ 100) → CanAlign a b → IsTrue p
align_left a b x m p x_is m_is left can =
    let same = size_same a x m (common_frac a b) x_is m_is in
    let size = can.left_size in
    left.1 (omega arith)

-- a failed test of two numbers that have no sum
pub align_none : (a b : Num) (v : Bool) → v ≡ false → (CanAlign a b → ⊥) → IsTrue v ↔ CanAlign a b
align_none a b v fails none = ((λ h. absurd (false≢true (sym fails ∙ h))), (λ can. absurd (none can)))
