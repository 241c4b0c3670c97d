-- Wrapping to a signed scale by uint64_t and int64_t.
use Rattle.std.proofs.Common.{◌≡◌, ℕ, suc, ◌+◌, ◌-◌, ◌*◌, ◌/◌, ◌%◌, ◌^◌, ◌<◌, ◌≤◌, ℤ, pos, ◌+ℤ◌, ◌-ℤ◌, neg_ℤ}
use Rattle.std.proofs.Common.{unsigned_abs, int_le, Bool, true, false, cond, refl, sym, ap, ◌∙◌, subst, arith, mod-lt}
use Rattle.std.proofs.Common.{mod-eq_of_lt, div-add-mod', pow-suc}
use Rattle.std.proofs.lemmas.Int.{ints, int_rem_euclid_is}
use Rattle.std.proofs.lemmas.Nat.{pow_pos, mod-mul-add}
use Rattle.std.proofs.lemmas.Bool.Decides.{nat_tests}
use Rattle.std.specs.Int.{int_rem_euclid}
use Rattle.fixed_point.proofs.Powers.{power-le}
use Rattle.fixed_point.specs.Scales.{wrapped}
use Rattle.fixed_point.specs.declared.scale.Scale.{Scale}
use Rattle.c_subset.specs.declared.trees.Width.{Width}
use Rattle.c_subset.specs.declared.trees.Width.TheVariants.{W8, W16, W32, W64, W128}
use Rattle.c_subset.specs.declared.trees.CType.{CType}
use Rattle.c_subset.specs.declared.trees.CType.TheVariants.{Signed, Unsigned}
use Rattle.c_subset.specs.declared.trees.Arithmetic.{Arithmetic}
use Rattle.c_subset.specs.declared.trees.Arithmetic.TheVariants.{Less}
use Rattle.c_subset.specs.declared.trees.Comparison.{Comparison}
use Rattle.c_subset.specs.Trees.{CExpr, Const, Cast, Minus, Calc, Compare}
use Rattle.c_subset.specs.declared.trees.Comparison.TheVariants.{IsAtMost}
use Rattle.c_subset.specs.Meaning.{bits, Meaning, Wrong, with_meaning, gives, converted, fits_signed, exact, calculated}
use Rattle.c_subset.specs.Meaning.{compared, negated, passes, truth, one_if, promoted, common, common_of, Store, Locals}
use Rattle.c_subset.specs.Meaning.{meaning}
use Rattle.c_functions.specs.Storing.{rest_c, signed_c}
use Rattle.c_functions.specs.Claims.{Has}
use Rattle.c_functions.proofs.StoringWraps.{lifted, common_unsigned}
use Rattle.c_functions.proofs.StoringScales.{choose-has}

-- ---- operators on two values of one type that isn't promoted

calc-at : (int : Width) (t : CType) (op : Arithmetic) (x y z : ℤ) → common int t t ≡ t → converted t x ≡ gives t x
    → converted t y ≡ gives t y → converted t (exact op x y) ≡ gives t z
    → calculated int op (record { type = t; value = x }) (record { type = t; value = y }) ≡ gives t z
calc-at int t op x y z same left right result =
    ap (λ (t : CType). with_meaning (converted t x)
    (λ a. with_meaning (converted t y) (λ b. converted t (exact op a.value b.value)))) same
    ∙ ap (λ (m : Meaning). with_meaning m
    (λ a. with_meaning (converted t y) (λ b. converted t (exact op a.value b.value)))) left
    ∙ ap (λ (m : Meaning). with_meaning m (λ b. converted t (exact op x b.value))) right ∙ result

compare-at : (int : Width) (t : CType) (op : Comparison) (x y : ℤ) → common int t t ≡ t → converted t x ≡ gives t x
    → converted t y ≡ gives t y
    → compared int op (record { type = t; value = x }) (record { type = t; value = y }) ≡ truth int (passes op x y)
compare-at int t op x y same left right =
    ap (λ (t : CType). with_meaning (converted t x)
    (λ a. with_meaning (converted t y) (λ b. truth int (passes op a.value b.value)))) same
    ∙ ap (λ (m : Meaning). with_meaning m
    (λ a. with_meaning (converted t y) (λ b. truth int (passes op a.value b.value)))) left
    ∙ ap (λ (m : Meaning). with_meaning m (λ b. truth int (passes op x b.value))) right

negate-at : (int : Width) (t : CType) (x z : ℤ) → promoted int t ≡ t → converted t x ≡ gives t x
    → converted t (neg_ℤ x) ≡ gives t z → negated int (record { type = t; value = x }) ≡ gives t z
negate-at int t x z same left result =
    ap (λ (t : CType). with_meaning (converted t x) (λ a. converted t (neg_ℤ a.value))) same
    ∙ ap (λ (m : Meaning). with_meaning m (λ a. converted t (neg_ℤ a.value))) left ∙ result

-- int64_t isn't promoted either
stays_signed : (int : Width) → bits int ≤ 64 → promoted int (Signed W64) ≡ Signed W64
stays_signed W8 most = refl
stays_signed W16 most = refl
stays_signed W32 most = refl
stays_signed W64 most = refl
stays_signed W128 most = absurd (omega arith)

common_signed : (int : Width) → bits int ≤ 64 → common int (Signed W64) (Signed W64) ≡ Signed W64
common_signed int most = ap (λ (t : CType). common_of t t) (stays_signed int most)

-- a natural number below 2 ^ 64 is one of uint64_t
pub unsigned-at : (n : ℕ) → n < 2 ^ 64 → converted (Unsigned W64) (pos n) ≡ gives (Unsigned W64) (pos n)
unsigned-at n below = ap (λ (x : ℕ). gives (Unsigned W64) (pos x)) (mod-eq_of_lt below)

-- a whole number in range is one of int64_t
signed-at : (z : ℤ) → fits_signed 64 z ≡ true → converted (Signed W64) z ≡ gives (Signed W64) z
signed-at z fits = ap (λ (b : Bool). cond b (gives (Signed W64) z) Wrong) fits

-- ---- the halves of a range

halfway-low : (m h : ℕ) → 0 < h → m % (h * 2) < h → (m + h) % (h * 2) ≡ m % (h * 2) + h
halfway-low m h some low =
    let q = m / (h * 2) in
    let parts = div-add-mod' m (h * 2) in
    let same : m + h ≡ q * (h * 2) + (m % (h * 2) + h) = omega (arith, parts) in
    ap (λ (x : ℕ). x % (h * 2)) same ∙ mod-mul-add q (h * 2) (m % (h * 2) + h) (omega arith)

halfway-high : (m h : ℕ) → 0 < h → h ≤ m % (h * 2) → (m + h) % (h * 2) ≡ m % (h * 2) - h
halfway-high m h some high =
    let q = m / (h * 2) in
    let parts = div-add-mod' m (h * 2) in
    let twice : 0 < h * 2 = omega arith in
    let below : m % (h * 2) < h * 2 = mod-lt m twice in
    let same : m + h ≡ (q + 1) * (h * 2) + (m % (h * 2) - h) = omega (arith, parts) in
    ap (λ (x : ℕ). x % (h * 2)) same ∙ mod-mul-add (q + 1) (h * 2) (m % (h * 2) - h) (omega arith)

-- what the C computes of the low bits r of a number, below 2 * h
abbrev pub from_low : ℕ → ℕ → ℤ
from_low h r = cond (int_le (pos r) (pos (h - 1))) (pos r) (neg_ℤ (pos (h * 2 - 1 - r)) -ℤ pos 1)

-- is the number that wraps to a range of two halves h
wraps : (z : ℤ) (h : ℕ) → 0 < h → (r : ℕ) × (int_rem_euclid z (pos (h * 2)) ≡ pos r) × (r < h * 2)
    × (neg_ℤ (pos h) +ℤ int_rem_euclid (z -ℤ neg_ℤ (pos h)) (pos (h * 2)) ≡ from_low h r)
wraps z h some =
    let twice : 0 < h * 2 = omega arith in
    let up = lifted z (h * 2) twice in
    let m = up.0 in
    let r = m % (h * 2) in
    let first = int_rem_euclid_is z (pos (h * 2)) (h * 2) (unsigned_abs z) m twice refl up.1 in
    let more : (z -ℤ neg_ℤ (pos h)) +ℤ pos (unsigned_abs z * (h * 2)) ≡ pos (m + h) = omega (arith, ints, up.1) in
    let second = int_rem_euclid_is (z -ℤ neg_ℤ (pos h)) (pos (h * 2)) (h * 2) (unsigned_abs z)
    (m + h) twice refl more in (
      r,
      first,
      mod-lt m twice,
      ap (λ (y : ℤ). neg_ℤ (pos h) +ℤ y) second ∙ at m r refl
          (int_le (pos r) (pos (h - 1))) refl,
    )
  where
    at : (m r : ℕ) → m % (h * 2) ≡ r → (b : Bool) → int_le (pos r) (pos (h - 1)) ≡ b
        → neg_ℤ (pos h) +ℤ pos ((m + h) % (h * 2)) ≡ cond b (pos r) (neg_ℤ (pos (h * 2 - 1 - r)) -ℤ pos 1)
    at m r e true is =
        let low : m % (h * 2) < h = grind (arith, nat_tests, ints) in
        let same = halfway-low m h some low in
        omega (arith, ints, same, e)
    at m r e false is =
        let high : h ≤ m % (h * 2) = grind (arith, nat_tests, ints) in
        let twice : 0 < h * 2 = omega arith in
        let below : m % (h * 2) < h * 2 = mod-lt m twice in
        let same = halfway-high m h some high in
        omega (arith, ints, same, e)

-- ---- the C

-- an operator on two expressions of known meaning
calc-means : (int : Width) (s : Store) (l : Locals) (t : CType) (op : Arithmetic) (a b : CExpr) (x y z : ℤ)
    → meaning int s l a ≡ gives t x → meaning int s l b ≡ gives t y
    → calculated int op (record { type = t; value = x }) (record { type = t; value = y }) ≡ gives t z
    → meaning int s l (Calc op a b) ≡ gives t z
unfolding meaning
calc-means int s l t op a b x y z left right is =
    ap (λ (m : Meaning). with_meaning m (λ x. with_meaning (meaning int s l b) (calculated int op x))) left
    ∙ ap (λ (m : Meaning). with_meaning m (calculated int op (record { type = t; value = x }))) right ∙ is

compare-means : (int : Width) (s : Store) (l : Locals) (t : CType) (op : Comparison) (a b : CExpr) (x y : ℤ)
    → meaning int s l a ≡ gives t x → meaning int s l b ≡ gives t y
    → compared int op (record { type = t; value = x }) (record { type = t; value = y }) ≡ truth int (passes op x y)
    → Has int s l (Compare op a b) (one_if (passes op x y))
unfolding meaning
compare-means int s l t op a b x y left right is = (
  Signed int,
  ap (λ (m : Meaning). with_meaning m (λ x. with_meaning (meaning int s l b) (compared int op x))) left
      ∙ ap (λ (m : Meaning). with_meaning m (compared int op (record { type = t; value = x }))) right ∙ is,
)

cast-means : (int : Width) (s : Store) (l : Locals) (t u : CType) (e : CExpr) (x : ℤ) → meaning int s l e ≡ gives u x
    → converted t x ≡ gives t x → meaning int s l (Cast t e) ≡ gives t x
unfolding meaning
cast-means int s l t u e x is to = ap (λ (m : Meaning). with_meaning m (λ x. converted t x.value)) is ∙ to

const-means : (int : Width) (s : Store) (l : Locals) (t : CType) (x : ℤ) → converted t x ≡ gives t x
    → meaning int s l (Const t x) ≡ gives t x
unfolding meaning
const-means int s l t x to = to

minus-means : (int : Width) (s : Store) (l : Locals) (t : CType) (e : CExpr) (x z : ℤ) → meaning int s l e ≡ gives t x
    → negated int (record { type = t; value = x }) ≡ gives t z → meaning int s l (Minus e) ≡ gives t z
unfolding meaning
minus-means int s l t e x z is to = ap (λ (m : Meaning). with_meaning m (negated int)) is ∙ to

-- the C of the halves
signed-has : (int : Width) (s : Store) (l : Locals) (scale : Scale) (e g : CExpr) (r : ℕ) → bits int ≤ 64
    → r < 2 ^ (scale.width - 1) * 2 → meaning int s l e ≡ gives (Unsigned W64) (pos r)
    → meaning int s l g ≡ gives (Unsigned W64) (pos (2 ^ (scale.width - 1) * 2 - 1 - r))
    → Has int s l (signed_c scale e g) (from_low (2 ^ (scale.width - 1)) r)
signed-has int s l scale e g r most below is rest_is =
    choose-has int s l W64 _ _ _ (int_le (pos r) (pos (h - 1))) (pos r) (neg_ℤ (pos (h * 2 - 1 - r)) -ℤ pos 1)
    (in_type (int_le (pos r) (pos (h - 1))) refl)
    (compare-means int s l (Unsigned W64) IsAtMost e _ (pos r) (pos (h - 1)) is
    (const-means int s l (Unsigned W64) (pos (h - 1)) (unsigned-at (h - 1) (omega (arith, h_fits))))
    (compare-at int (Unsigned W64) IsAtMost (pos r) (pos (h - 1)) (common_unsigned int most)
    (unsigned-at r r_fits) (unsigned-at (h - 1) (omega (arith, h_fits)))))
    lower higher
  where
    h : ℕ
    h = 2 ^ (scale.width - 1)

    h_fits : h ≤ 2 ^ 63
    h_fits = let bound = scale.bits_within in power-le (scale.width - 1) 63 (omega (arith, bound))

    h_some : 0 < h
    h_some = pow_pos (scale.width - 1)

    r_fits : r < 2 ^ 64
    r_fits = omega (arith, below, h_fits)

    in_type : (b : Bool) → int_le (pos r) (pos (h - 1)) ≡ b
        → fits_signed 64 (cond b (pos r) (neg_ℤ (pos (h * 2 - 1 - r)) -ℤ pos 1)) ≡ true
    in_type true low =
        let small : r < h = grind (arith, nat_tests, ints, h_some) in
        grind (arith, ints, h_fits)
    in_type false high =
        let big : h ≤ r = grind (arith, nat_tests, ints) in
        let small : h * 2 - 1 - r < 2 ^ 63 = omega (arith, h_fits, big, h_some) in
        grind (arith, ints)

    lower : int_le (pos r) (pos (h - 1)) ≡ true → Has int s l (Cast (Signed W64) e) (pos r)
    lower low =
        let small : r < h = grind (arith, nat_tests, ints, h_some) in
        let fits : fits_signed 64 (pos r) ≡ true = grind (arith, ints, h_fits) in
        (Signed W64, cast-means int s l (Signed W64) (Unsigned W64) e (pos r) is (signed-at (pos r) fits))

    rest : ℕ
    rest = h * 2 - 1 - r

    higher : int_le (pos r) (pos (h - 1)) ≡ false → Has int s l
        (Calc Less (Minus (Cast (Signed W64) g)) (Const (Signed W64) (pos 1)))
        (neg_ℤ (pos rest) -ℤ pos 1)
    higher high =
        let big : h ≤ r = grind (arith, nat_tests, ints) in
        let small : rest < 2 ^ 63 = omega (arith, h_fits, big, h_some) in
        let fits : fits_signed 64 (pos rest) ≡ true = grind (arith, ints) in
        let fits' : fits_signed 64 (neg_ℤ (pos rest)) ≡ true = grind (arith, ints) in
        let fits'' : fits_signed 64 (neg_ℤ (pos rest) -ℤ pos 1) ≡ true = grind (arith, ints) in (
          Signed W64,
          calc-means int s l (Signed W64) Less _ _ (neg_ℤ (pos rest)) (pos 1) (neg_ℤ (pos rest) -ℤ pos 1)
              (minus-means int s l (Signed W64) _ (pos rest) (neg_ℤ (pos rest))
              (cast-means int s l (Signed W64) (Unsigned W64) _ (pos rest) rest_is (signed-at (pos rest) fits))
              (negate-at int (Signed W64) (pos rest) (neg_ℤ (pos rest)) (stays_signed int most)
              (signed-at (pos rest) fits) (signed-at (neg_ℤ (pos rest)) fits')))
              (const-means int s l (Signed W64) (pos 1) refl)
              (calc-at int (Signed W64) Less (neg_ℤ (pos rest)) (pos 1) (neg_ℤ (pos rest) -ℤ pos 1)
              (common_signed int most)
              (signed-at (neg_ℤ (pos rest)) fits') refl (signed-at (neg_ℤ (pos rest) -ℤ pos 1) fits'')),
        )

-- half of the numbers of a scale
abbrev half : Scale → ℕ
half scale = 2 ^ (scale.width - 1)

half-fits : (scale : Scale) → half scale ≤ 2 ^ 63
half-fits scale = let bound = scale.bits_within in power-le (scale.width - 1) 63 (omega (arith, bound))

both-halves : (scale : Scale) → 2 ^ scale.width ≡ half scale * 2
both-halves scale =
    let some = scale.some_bits in
    let w : scale.width ≡ suc (scale.width - 1) = omega arith in
    ap (λ (x : ℕ). 2 ^ x) w ∙ pow-suc 2 (scale.width - 1)

-- what the mask is more than low bits r
abbrev pub rest_of : Scale → ℕ → ℕ
rest_of scale r = half scale * 2 - 1 - r

pub rest-fits : (scale : Scale) (r : ℕ) → rest_of scale r < 2 ^ 64
rest-fits scale r =
    let fits = half-fits scale in
    let some = pow_pos (scale.width - 1) in
    omega (arith, fits, some)

-- MASK - u, where u gives the low bits
pub rest-means : (int : Width) (s : Store) (l : Locals) (scale : Scale) (e : CExpr) (r : ℕ) → bits int ≤ 64
    → r < half scale * 2 → meaning int s l e ≡ gives (Unsigned W64) (pos r)
    → meaning int s l (rest_c scale e) ≡ gives (Unsigned W64) (pos (rest_of scale r))
rest-means int s l scale e r most below is =
    let fits = half-fits scale in
    let some = pow_pos (scale.width - 1) in
    let all = both-halves scale in
    let r_fits : r < 2 ^ 64 = omega (arith, below, fits) in
    let top : converted (Unsigned W64) (pos (2 ^ scale.width - 1)) ≡ gives (Unsigned W64) (pos (2 ^ scale.width - 1)) =
    unsigned-at (2 ^ scale.width - 1) (omega (arith, all, fits, some)) in
    let less : exact Less (pos (2 ^ scale.width - 1)) (pos r) ≡ pos (rest_of scale r) =
    omega (arith, ints, all, below) in
    calc-means int s l (Unsigned W64) Less _ e (pos (2 ^ scale.width - 1)) (pos r) (pos (rest_of scale r))
    (const-means int s l (Unsigned W64) _ top) is
    (calc-at int (Unsigned W64) Less (pos (2 ^ scale.width - 1)) (pos r) (pos (rest_of scale r))
    (common_unsigned int most) top (unsigned-at r r_fits)
    (ap (λ (z : ℤ). converted (Unsigned W64) z) less ∙ unsigned-at (rest_of scale r) (rest-fits scale r)))

-- the low bits of a number
pub record HasLow (scale : Scale) (z : ℤ) : Type 0 where
  pub low : ℕ
  pub is : int_rem_euclid z (pos (2 ^ scale.width)) ≡ pos low
  pub below : low < half scale * 2
  pub wraps_to : scale.signed ≡ true → wrapped scale z ≡ from_low (half scale) low

pub has-low : (scale : Scale) (z : ℤ) → HasLow scale z
has-low scale z =
    let h = half scale in
    let all = both-halves scale in
    let halves = wraps z h (pow_pos (scale.width - 1)) in
    record {
      low = halves.0;
      is = ap (λ (n : ℕ). int_rem_euclid z (pos n)) all ∙ halves.1;
      below = halves.2;
      wraps_to = λ signed.
          let by_sign : wrapped scale z
          ≡ neg_ℤ (pos h) +ℤ int_rem_euclid (z -ℤ neg_ℤ (pos h)) (pos (2 ^ scale.width)) =
          ap (λ (b : Bool). cond b (neg_ℤ (pos h)) (pos 0) +ℤ int_rem_euclid (z -ℤ cond b (neg_ℤ (pos h)) (pos 0))
          (pos (2 ^ scale.width))) signed in
          by_sign ∙ ap (λ (n : ℕ). neg_ℤ (pos h) +ℤ int_rem_euclid (z -ℤ neg_ℤ (pos h)) (pos n)) all ∙ halves.3;
    }

-- of a signed scale it is what wrapping keeps, where e gives the low bits of z, and g what the mask is more
pub wrapped-signed : (int : Width) (s : Store) (l : Locals) (scale : Scale) (e g : CExpr) (z : ℤ) (h : HasLow scale z)
    → bits int ≤ 64 → scale.signed ≡ true → meaning int s l e ≡ gives (Unsigned W64) (pos h.low)
    → meaning int s l g ≡ gives (Unsigned W64) (pos (rest_of scale h.low))
    → Has int s l (signed_c scale e g) (wrapped scale z)
wrapped-signed int s l scale e g z h most signed low rest =
    subst (λ (y : ℤ). Has int s l (signed_c scale e g) y) (sym (h.wraps_to signed))
    (signed-has int s l scale e g h.low most h.below low rest)
