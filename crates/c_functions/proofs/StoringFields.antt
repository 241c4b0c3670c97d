-- What a scale keeps of a number, and the field that takes it.
use Rattle.std.proofs.Common.{◌≡◌, ℕ, ◌+◌, ◌-◌, ◌^◌, ◌<◌, ◌≤◌, max, nat_le, ℤ, pos, negsuc, neg_ℤ, unsigned_abs, int_le}
use Rattle.std.proofs.Common.{Bool, true, false, cond, not, ◌&&◌, IsTrue, Ok, is_err, refl, ap, subst, arith}
use Rattle.std.proofs.Common.{mod-eq_of_lt, Some}
use Rattle.std.proofs.lemmas.Int.{ints}
use Rattle.std.proofs.lemmas.Nat.{pow_pos}
use Rattle.std.proofs.lemmas.Bool.Decides.{nat_tests}
use Rattle.std.specs.Int.{int_rem_euclid}
use Rattle.fixed_point.proofs.Powers.{power-le}
use Rattle.fixed_point.specs.Numbers.{floored}
use Rattle.fixed_point.specs.Scales.{is_in_range, nearest_end, fitted, by_mode}
use Rattle.fixed_point.specs.declared.num.Num.{Num}
use Rattle.fixed_point.specs.declared.scale.Scale.{Scale}
use Rattle.fixed_point.specs.declared.fitting.Mode.TheVariants.{Saturate, Error}
use Rattle.actions.specs.declared.names.Sort.TheVariants as sorts
use Rattle.actions.specs.Sorts.{size_at}
use Rattle.c_subset.specs.Trees.{Local}
use Rattle.c_subset.specs.declared.trees.Width.{Width}
use Rattle.c_subset.specs.declared.trees.Width.TheVariants.{W8, W16, W32, W64}
use Rattle.c_subset.specs.declared.trees.CType.TheVariants.{Signed, Unsigned}
use Rattle.c_subset.specs.Meaning.{bits, Wrong, gives, converted, fits_signed, one_if, Store, Locals}
use Rattle.c_functions.specs.Storing.{floored_width, saturated_c, out_c}
use Rattle.c_functions.specs.Claims.{Has, least_width, field_type}
use Rattle.c_functions.proofs.TranslationRoom.{width_for-room}
use Rattle.c_functions.proofs.TranslationOperators.{Roomy, local-roomy}
use Rattle.c_functions.proofs.StoringScales.{floored-small, saturated-has, out-has}

-- the local has the number at the datum's fraction
abbrev pub IsBrought : Locals → ℕ → Num → ℕ → Scale → Type 0
IsBrought l k n size scale = l (Signed (floored_width n.frac size scale.frac)) k ≡ Some (floored n scale.frac)

-- the type of the local has room
pub room-there : (n : Num) (size : ℕ) (scale : Scale) → n.frac ≤ 64 → size_at scale.frac n.frac size ≤ 100
    → size_at scale.frac n.frac size + 1 < bits (floored_width n.frac size scale.frac)
room-there n size scale few most =
    let h = width_for-room (max (size_at scale.frac n.frac size) (n.frac - scale.frac)) (omega arith) in omega
    (arith, h)

brought-is : (int : Width) (s : Store) (l : Locals) (k : ℕ) (n : Num) (size : ℕ) (scale : Scale) → n.frac ≤ 64
    → size_at scale.frac n.frac size ≤ 100 → IsBrought l k n size scale
    → Roomy int s l (size_at scale.frac n.frac size) (Local (Signed (floored_width n.frac size scale.frac)) k)
    (floored n scale.frac)
brought-is int s l k n size scale few most there =
    local-roomy int s l (floored_width n.frac size scale.frac) k (size_at scale.frac n.frac size) (floored n scale.frac)
    (room-there n size scale few most) there

-- what is kept where numbers out of range are brought to the nearest end
pub saturates : (int : Width) (s : Store) (l : Locals) (k : ℕ) (n : Num) (size : ℕ) (scale : Scale) (m : ℤ)
    → n.frac ≤ 64
    → unsigned_abs n.mantissa ≤ 2 ^ size → size_at scale.frac n.frac size ≤ 100 → IsBrought l k n size scale
    → fitted n scale Saturate ≡ Ok m
    → Has int s l (saturated_c scale (size_at scale.frac n.frac size) (floored_width n.frac size scale.frac)
    (Local (Signed (floored_width n.frac size scale.frac)) k)) m
unfolding fitted
saturates int s l k n size scale m few small most there is =
    subst (λ (z : ℤ). Has int s l
    (saturated_c scale (size_at scale.frac n.frac size) (floored_width n.frac size scale.frac)
    (Local (Signed (floored_width n.frac size scale.frac)) k)) z)
    (same (is_in_range scale (floored n scale.frac)) is)
    (saturated-has int s l scale (size_at scale.frac n.frac size) (floored_width n.frac size scale.frac)
    (Local (Signed (floored_width n.frac size scale.frac)) k) (floored n scale.frac)
    (room-there n size scale few most) (brought-is int s l k n size scale few most there)
    (floored-small n size scale.frac small))
  where
    same : (b : Bool) → cond b (Ok (floored n scale.frac)) (by_mode Saturate scale (floored n scale.frac)) ≡ Ok m
        → cond b (floored n scale.frac) (nearest_end scale (floored n scale.frac)) ≡ m
    same true e = cc
    same false e = cc

-- the test of an overflow is true exactly where there is one
pub overflows : (int : Width) (s : Store) (l : Locals) (k : ℕ) (n : Num) (size : ℕ) (scale : Scale) → n.frac ≤ 64
    → unsigned_abs n.mantissa ≤ 2 ^ size → size_at scale.frac n.frac size ≤ 100 → IsBrought l k n size scale
    → Has int s l (out_c scale (size_at scale.frac n.frac size) (floored_width n.frac size scale.frac)
    (Local (Signed (floored_width n.frac size scale.frac)) k))
    (one_if (is_err (fitted n scale Error)))
unfolding fitted
overflows int s l k n size scale few small most there =
    subst (λ (b : Bool). Has int s l
    (out_c scale (size_at scale.frac n.frac size) (floored_width n.frac size scale.frac)
    (Local (Signed (floored_width n.frac size scale.frac)) k)) (one_if b))
    (same (is_in_range scale (floored n scale.frac)))
    (out-has int s l scale (size_at scale.frac n.frac size) (floored_width n.frac size scale.frac)
    (Local (Signed (floored_width n.frac size scale.frac)) k) (floored n scale.frac)
    (room-there n size scale few most) (brought-is int s l k n size scale few most there)
    (floored-small n size scale.frac small))
  where
    same : (b : Bool) → not b ≡ is_err (cond b (Ok (floored n scale.frac)) (by_mode Error scale (floored n scale.frac)))
    same true = refl
    same false = refl

-- ---- the field

least_width-holds : (n : ℕ) → n ≤ 64 → n ≤ bits (least_width n)
least_width-holds n most = at (nat_le n 8) (nat_le n 16) (nat_le n 32) refl refl refl
  where
    at : (a b c : Bool) → nat_le n 8 ≡ a → nat_le n 16 ≡ b → nat_le n 32 ≡ c → n ≤ bits
        (cond a W8 (cond b W16 (cond c W32 W64)))
    at true b c e f g = grind (arith, nat_tests)
    at false true c e f g = grind (arith, nat_tests)
    at false false true e f g = grind (arith, nat_tests)
    at false false false e f g = most

-- a mantissa in range is taken by the field as it is
pub field-takes : (scale : Scale) (m : ℤ) → IsTrue (is_in_range scale m)
    → converted (field_type (sorts.Number scale)) m ≡ gives (field_type (sorts.Number scale)) m
field-takes scale m fits = at scale.signed fits
  where
    w : Width
    w = least_width scale.width

    holds : scale.width ≤ bits w
    holds = least_width-holds scale.width scale.bits_within

    some : 1 ≤ scale.width
    some = scale.some_bits

    unsigned_stays : (z : ℤ) → (int_le (pos 0) z && int_le z (pos (2 ^ scale.width - 1))) ≡ true
        → int_rem_euclid z (pos (2 ^ bits w)) ≡ z
    unsigned_stays (pos a) is =
        let h = power-le scale.width (bits w) holds in
        let some_power = pow_pos scale.width in
        let below : a < 2 ^ bits w = grind (arith, ints) in
        ap pos (mod-eq_of_lt below)
    unsigned_stays (negsuc a) is = cc

    at : (b : Bool) → IsTrue (int_le (cond b (neg_ℤ (pos (2 ^ (scale.width - 1)))) (pos 0)) m
        && int_le m (cond b (pos (2 ^ (scale.width - 1) - 1)) (pos (2 ^ scale.width - 1))))
        → converted (cond b (Signed w) (Unsigned w)) m ≡ gives (cond b (Signed w) (Unsigned w)) m
    at true is =
        let h = power-le (scale.width - 1) (bits w - 1) (omega (arith, holds)) in
        let in_type : fits_signed (bits w) m ≡ true = grind (arith, ints) in
        ap (λ (b : Bool). cond b (gives (Signed w) m) Wrong) in_type
    at false is = ap (gives (Unsigned w)) (unsigned_stays m is)
