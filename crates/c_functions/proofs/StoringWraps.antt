-- Numbers modulo a power of two.
use Rattle.std.proofs.Common.{◌≡◌, ℕ, suc, ◌+◌, ◌-◌, ◌*◌, ◌/◌, ◌%◌, ◌^◌, ◌<◌, ◌≤◌, ℤ, pos, negsuc, ◌+ℤ◌, ◌-ℤ◌, neg_ℤ}
use Rattle.std.proofs.Common.{unsigned_abs, Bool, false, cond, refl, sym, ap, ◌∙◌, arith, mod-lt, mod-eq_of_lt}
use Rattle.std.proofs.lemmas.Int.{ints, int_rem_euclid_is}
use Rattle.fixed_point.proofs.Powers.{power-le}
use Rattle.std.proofs.lemmas.Nat.{pow_pos, pow-add, mul-le, mod-pow-add, mod-mul-add, and_mask}
use Rattle.std.specs.Int.{int_rem_euclid}
use Rattle.fixed_point.specs.Scales.{wrapped}
use Rattle.fixed_point.specs.declared.scale.Scale.{Scale}
use Rattle.c_subset.specs.Trees.{CExpr}
use Rattle.c_subset.specs.declared.trees.Width.{Width}
use Rattle.c_subset.specs.declared.trees.Width.TheVariants.{W8, W16, W32, W64, W128}
use Rattle.c_subset.specs.declared.trees.CType.{CType}
use Rattle.c_subset.specs.declared.trees.CType.TheVariants.{Unsigned}
use Rattle.c_subset.specs.declared.trees.Bitwise.TheVariants.{BitAnd}
use Rattle.c_subset.specs.Meaning.{bits, CValue, Meaning, with_meaning, gives, converted, combined, combined_in, common}
use Rattle.c_subset.specs.Meaning.{common_of, promoted, Store, Locals, meaning}
use Rattle.c_functions.specs.Storing.{low_bits_c}
use Rattle.c_functions.specs.Claims.{Has}

-- a multiple of n that lifts z to a natural number
pub lifted : (z : ℤ) (n : ℕ) → 0 < n → (m : ℕ) × (z +ℤ pos (unsigned_abs z * n) ≡ pos m)
lifted (pos a) n some = (a + a * n, refl)
lifted (negsuc a) n some =
    let h = mul-le (suc a) 1 (suc a) n (omega arith) some in (suc a * n - suc a, omega (arith, ints))

-- the low bits of low bits
low-low : (m k j : ℕ) → k ≤ j → m % 2 ^ j % 2 ^ k ≡ m % 2 ^ k
low-low m k j within =
    let parts : j ≡ (j - k) + k = omega arith in
    let some = pow_pos k in
    let below : m % 2 ^ k < 2 ^ k = mod-lt m some in
    ap (λ (x : ℕ). m % 2 ^ x % 2 ^ k) parts ∙ ap (λ (x : ℕ). x % 2 ^ k) (mod-pow-add m (j - k) k)
    ∙ mod-mul-add (m / 2 ^ k % 2 ^ (j - k)) (2 ^ k) (m % 2 ^ k) below

-- a remainder of a remainder
pub rem-rem : (z : ℤ) (k j : ℕ) → k ≤ j
    → int_rem_euclid (int_rem_euclid z (pos (2 ^ j))) (pos (2 ^ k)) ≡ int_rem_euclid z (pos (2 ^ k))
rem-rem z k j within =
    let up = lifted z (2 ^ j) (pow_pos j) in
    let split : 2 ^ j ≡ 2 ^ (j - k) * 2 ^ k =
    let parts : j ≡ (j - k) + k = omega arith in ap (λ (x : ℕ). 2 ^ x) parts ∙ pow-add 2 (j - k) k in
    let count : unsigned_abs z * 2 ^ j ≡ (unsigned_abs z * 2 ^ (j - k)) * 2 ^ k =
    ap (λ (x : ℕ). unsigned_abs z * x) split ∙ omega arith in
    let first = int_rem_euclid_is z (pos (2 ^ j)) (2 ^ j) (unsigned_abs z) up.0 (pow_pos j) refl up.1 in
    let second = int_rem_euclid_is z (pos (2 ^ k)) (2 ^ k) (unsigned_abs z * 2 ^ (j - k)) up.0 (pow_pos k) refl
    (ap (λ (x : ℕ). z +ℤ pos x) (sym count) ∙ up.1) in
    ap (λ (y : ℤ). int_rem_euclid y (pos (2 ^ k))) first ∙ ap pos (low-low up.0 k j within) ∙ sym second

-- ---- (uint64_t)x & MASK

-- uint64_t isn't promoted, where int has at most 64 bits
pub stays_unsigned : (int : Width) → bits int ≤ 64 → promoted int (Unsigned W64) ≡ Unsigned W64
stays_unsigned W8 most = refl
stays_unsigned W16 most = refl
stays_unsigned W32 most = refl
stays_unsigned W64 most = refl
stays_unsigned W128 most = absurd (omega arith)

-- nor is a pair of them
pub common_unsigned : (int : Width) → bits int ≤ 64 → common int (Unsigned W64) (Unsigned W64) ≡ Unsigned W64
common_unsigned int most = ap (λ (t : CType). common_of t t) (stays_unsigned int most)

-- the mask of the k lowest bits is one of uint64_t
mask-stays : (k : ℕ) → k ≤ 64 → converted (Unsigned W64) (pos (2 ^ k - 1)) ≡ gives (Unsigned W64) (pos (2 ^ k - 1))
mask-stays k few =
    let some = pow_pos k in
    let h = power-le k 64 few in
    let below : 2 ^ k - 1 < 2 ^ 64 = omega (arith, some, h) in
    ap (λ (x : ℕ). gives (Unsigned W64) (pos x)) (mod-eq_of_lt below)

-- & with the mask of a remainder
masked-is : (n k : ℕ) → combined_in (Unsigned W64) BitAnd (pos n) (pos (2 ^ k - 1)) ≡ gives (Unsigned W64)
    (pos (n % 2 ^ k))
masked-is n k = ap (λ (x : ℕ). gives (Unsigned W64) (pos x)) (and_mask n k)

pub low_bits-is : (int : Width) (s : Store) (l : Locals) (scale : Scale) (x : CExpr) (z : ℤ) → bits int ≤ 64
    → Has int s l x z → meaning int s l (low_bits_c scale x) ≡ gives (Unsigned W64)
    (int_rem_euclid z (pos (2 ^ scale.width)))
unfolding meaning
low_bits-is int s l scale x z most has =
    let k = scale.width in
    let few = scale.bits_within in
    let up = lifted z (2 ^ 64) (pow_pos 64) in
    let n = up.0 % 2 ^ 64 in
    let first : int_rem_euclid z (pos (2 ^ 64)) ≡ pos n = int_rem_euclid_is z (pos (2 ^ 64)) (2 ^ 64)
    (unsigned_abs z) up.0 (pow_pos 64) refl up.1 in
    let u : CValue = record { type = Unsigned W64; value = pos n } in
    let mask : CValue = record { type = Unsigned W64; value = pos (2 ^ k - 1) } in
    let own : converted (Unsigned W64) (pos n) ≡ gives (Unsigned W64) (pos n) =
    ap (λ (x : ℕ). gives (Unsigned W64) (pos x)) (mod-eq_of_lt (mod-lt up.0 (pow_pos 64))) in
    ap (λ (m : Meaning). with_meaning (with_meaning m (λ x. converted (Unsigned W64) x.value))
    (λ x. with_meaning (converted (Unsigned W64) (pos (2 ^ k - 1))) (combined int BitAnd x))) has.1
    ∙ ap (λ (y : ℤ). with_meaning (converted (Unsigned W64) (pos (2 ^ k - 1)))
    (combined int BitAnd (record { type = Unsigned W64; value = y }))) first
    ∙ ap (λ (m : Meaning). with_meaning m (combined int BitAnd u)) (mask-stays k few)
    ∙ ap (λ (t : CType). with_meaning (converted t (pos n))
    (λ a. with_meaning (converted t (pos (2 ^ k - 1))) (λ b. combined_in t BitAnd a.value b.value)))
    (common_unsigned int most)
    ∙ ap (λ (m : Meaning). with_meaning m
    (λ a. with_meaning (converted (Unsigned W64) (pos (2 ^ k - 1)))
    (λ b. combined_in (Unsigned W64) BitAnd a.value b.value))) own
    ∙ ap (λ (m : Meaning). with_meaning m (λ b. combined_in (Unsigned W64) BitAnd (pos n) b.value)) (mask-stays k few)
    ∙ masked-is n k
    ∙ ap (gives (Unsigned W64)) (ap (λ (y : ℤ). int_rem_euclid y (pos (2 ^ k))) (sym first) ∙ rem-rem z k 64 few)

-- of an unsigned scale that is what wrapping keeps
pub wrapped-unsigned : (scale : Scale) (z : ℤ) → scale.signed ≡ false
    → wrapped scale z ≡ int_rem_euclid z (pos (2 ^ scale.width))
wrapped-unsigned scale z is =
    ap (λ (b : Bool). cond b (neg_ℤ (pos (2 ^ (scale.width - 1)))) (pos 0)
    +ℤ int_rem_euclid (z -ℤ cond b (neg_ℤ (pos (2 ^ (scale.width - 1)))) (pos 0)) (pos (2 ^ scale.width))) is
    ∙ plus_nothing (int_rem_euclid (z -ℤ pos 0) (pos (2 ^ scale.width)))
    ∙ ap (λ (y : ℤ). int_rem_euclid y (pos (2 ^ scale.width))) (less_nothing z)
  where
    plus_nothing : (y : ℤ) → pos 0 +ℤ y ≡ y
    plus_nothing y = omega (arith, ints)

    less_nothing : (y : ℤ) → y -ℤ pos 0 ≡ y
    less_nothing y = omega (arith, ints)
