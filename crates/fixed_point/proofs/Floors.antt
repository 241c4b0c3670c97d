-- The floor of a number that is brought to another fraction.
use Rattle.std.proofs.Common.{◌≡◌, ℕ, ◌+◌, ◌-◌, ◌*◌, ◌/◌, ◌%◌, ◌^◌, ◌<◌, ◌≤◌, ℤ, pos, negsuc, ◌*ℤ◌, unsigned_abs}
use Rattle.std.proofs.Common.{FitsSigned, min, nat_eq, true, false, refl, sym, ⊎_elim, ap, ◌∙◌, arith}
use Rattle.std.proofs.lemmas.Nat.{pow_pos, pow-add, shr-shr, shl-shr, shr_high}
use Rattle.std.proofs.lemmas.Nat.{div-mul-add, mod_low, mod-pow-add, mul-le}
use Rattle.std.proofs.lemmas.Int.{unsigned_abs-mul}
use Rattle.std.specs.Int.{int_shr, w128, cast_unsigned}
use Rattle.std.proofs.lemmas.Bool.Decides.{nat_tests}
use Rattle.std.proofs.lemmas.Bool.{cases_lt}
use Rattle.std.proofs.Math.Nat.{div-le_self, div-eq_of_lt, mod-eq_of_lt}
use lib.Signed.{mag}
use Rattle.fixed_point.specs.Numbers.{floor_by, floored, scaled, is_whole}
use Rattle.fixed_point.specs.declared.num.Num.{Num}
use Rattle.fixed_point.proofs.Powers.{product_negsuc, product_one, product_split, abs_positive, power-le}

-- a shift is the floor by the power
pub floor_by-power : (z : ℤ) (d : ℕ) → int_shr z d ≡ floor_by z (2 ^ d)
floor_by-power (pos a) d = refl
floor_by-power (negsuc a) d = refl

-- what lies after the t bits of a goes with the d bits that are dropped
quotient_dropped : (n a r t d : ℕ) → n ≡ a * 2 ^ t + r → r < 2 ^ t → n / 2 ^ (t + d) ≡ a / 2 ^ d
quotient_dropped n a r t d e small =
    let front : n / 2 ^ t ≡ a = ap (λ (x : ℕ). x / 2 ^ t) e ∙ shr_high a t r small in
    sym (shr-shr n t d) ∙ ap (λ (x : ℕ). x / 2 ^ d) front

-- bits that were added are dropped again, and d more
pub floor_by-dropped : (z : ℤ) (t d : ℕ) → floor_by (z *ℤ pos (2 ^ t)) (2 ^ (t + d)) ≡ floor_by z (2 ^ d)
floor_by-dropped (pos a) t d = ap pos (quotient_dropped (a * 2 ^ t) a 0 t d (omega arith) (pow_pos t))
floor_by-dropped (negsuc a) t d =
    let some : 0 < 2 ^ t = pow_pos t in
    ap (λ (z : ℤ). floor_by z (2 ^ (t + d))) (product_negsuc a (2 ^ t) some)
    ∙ ap negsuc (quotient_dropped (a * 2 ^ t + (2 ^ t - 1)) a (2 ^ t - 1) t d refl (omega arith))

-- the same product, written by a factor
product_less_one : (a c f : ℕ) → 0 < f → a * (f * (c + 1)) + (f * (c + 1) - 1) ≡ (a * (c + 1) + c) * f + (f - 1)
product_less_one a c f some = omega arith

-- a product with two factors, less 1, by one of them
last_of_product : (a d f p : ℕ) → 0 < d → 0 < f → p ≡ f * d → (a * p + (p - 1)) / f ≡ a * d + (d - 1)
last_of_product a d f p some_d some_f e =
    let next : d ≡ (d - 1) + 1 = omega arith in
    let whole : a * p + (p - 1) ≡ (a * ((d - 1) + 1) + (d - 1)) * f + (f - 1) =
    ap (λ (x : ℕ). a * x + (x - 1)) (e ∙ ap (λ (x : ℕ). f * x) next) ∙ product_less_one a (d - 1) f some_f in
    ap (λ (x : ℕ). x / f) whole ∙ div-mul-add (a * ((d - 1) + 1) + (d - 1)) f (f - 1) (omega arith)
    ∙ ap (λ (x : ℕ). a * x + (d - 1)) (sym next)

-- zero bits are added
pub floor_by-raised : (z : ℤ) (f d : ℕ) → floor_by (z *ℤ pos (2 ^ (f + d))) (2 ^ f) ≡ z *ℤ pos (2 ^ d)
floor_by-raised (pos a) f d = ap pos (ap (λ (x : ℕ). x / 2 ^ f) (product_split a f d) ∙ shl-shr (a * 2 ^ d) f)
floor_by-raised (negsuc a) f d =
    let some_d : 0 < 2 ^ d = pow_pos d in
    let some_f : 0 < 2 ^ f = pow_pos f in
    let some : 0 < 2 ^ (f + d) = pow_pos (f + d) in
    ap (λ (z : ℤ). floor_by z (2 ^ f)) (product_negsuc a (2 ^ (f + d)) some)
    ∙ ap negsuc (last_of_product a (2 ^ d) (2 ^ f) (2 ^ (f + d)) some_d some_f (pow-add 2 f d))
    ∙ sym (product_negsuc a (2 ^ d) some_d)

-- all bits but the sign are dropped
nothing_left : (a k e : ℕ) → a < 2 ^ k → k ≤ e → a / 2 ^ e ≡ 0
nothing_left a k e small far = div-eq_of_lt (omega (arith, power-le k e far))

-- where no bit is left the floor stays as it is
pub floor_by-far : (z : ℤ) (k e : ℕ) → mag z < 2 ^ k → k ≤ e → floor_by z (2 ^ e) ≡ floor_by z (2 ^ k)
floor_by-far (pos a) k e small far =
    ap pos (nothing_left a k e small far ∙ sym (nothing_left a k k small (omega arith)))
floor_by-far (negsuc a) k e small far =
    ap negsuc (nothing_left a k e small far ∙ sym (nothing_left a k k small (omega arith)))

-- at a fraction that is at least its own a number has zero bits more
pub floored-raised : (a : Num) (frac : ℕ) → a.frac ≤ frac → floored a frac ≡ scaled a frac
floored-raised a frac above =
    let f = a.frac in
    let d = frac - f in
    let parts : frac ≡ f + d = omega arith in
    ap (λ (x : ℕ). floor_by (a.mantissa *ℤ pos (2 ^ x)) (2 ^ f)) parts ∙ floor_by-raised a.mantissa f d

-- at its own fraction it has its own mantissa
pub scaled-own : (a : Num) (frac : ℕ) → frac ≡ a.frac → scaled a frac ≡ a.mantissa
scaled-own a frac same =
    let none : frac - a.frac ≡ 0 = omega arith in
    ap (λ (x : ℕ). a.mantissa *ℤ pos (2 ^ x)) none ∙ product_one a.mantissa

-- at a lower fraction it loses bits
pub floored-dropped : (a : Num) (frac : ℕ) → frac ≤ a.frac → floored a frac ≡ floor_by a.mantissa (2 ^ (a.frac - frac))
floored-dropped a frac below =
    let d = a.frac - frac in
    let parts : a.frac ≡ frac + d = omega arith in
    ap (λ (x : ℕ). floor_by (a.mantissa *ℤ pos (2 ^ frac)) (2 ^ x)) parts ∙ floor_by-dropped a.mantissa frac d

-- no more than 127 bits need to be dropped
pub floored-shifted : (a : Num) (frac : ℕ) → FitsSigned w128 a.mantissa → frac ≤ a.frac
    → floored a frac ≡ floor_by a.mantissa (2 ^ min (a.frac - frac) 127)
floored-shifted a frac fits below =
    let d = a.frac - frac in
    let few : d < 127 → floor_by a.mantissa (2 ^ d) ≡ floor_by a.mantissa (2 ^ min d 127) =
    λ near. let e : d ≡ min d 127 = omega arith in ap (λ (x : ℕ). floor_by a.mantissa (2 ^ x)) e in
    let many : 127 ≤ d → floor_by a.mantissa (2 ^ d) ≡ floor_by a.mantissa (2 ^ min d 127) =
    λ far. let e : 127 ≡ min d 127 = omega arith in
    floor_by-far a.mantissa 127 d fits.sfits far ∙ ap (λ (x : ℕ). floor_by a.mantissa (2 ^ x)) e in
    floored-dropped a frac below ∙ ⊎_elim few many (cases_lt d 127)

-- ---- values that are whole at a fraction

-- a multiple of a power leaves nothing
pub nothing_over : (n k : ℕ) → (n * 2 ^ k) % 2 ^ k ≡ 0
nothing_over n k =
    let e : n * 2 ^ k ≡ n * 2 ^ k + 0 = omega arith in
    ap (λ (x : ℕ). x % 2 ^ k) e ∙ mod_low n k 0 (pow_pos k)

-- at a fraction that is at least its own every number is whole
pub is_whole-raised : (a : Num) (frac : ℕ) → a.frac ≤ frac → is_whole a frac ≡ true
is_whole-raised a frac above =
    let n = unsigned_abs a.mantissa in
    let d = frac - a.frac in
    let parts : frac ≡ a.frac + d = omega arith in
    let over : (n * 2 ^ frac) % 2 ^ a.frac ≡ 0 =
    ap (λ (x : ℕ). (n * 2 ^ x) % 2 ^ a.frac) parts ∙ ap (λ (x : ℕ). x % 2 ^ a.frac) (product_split n a.frac d)
    ∙ nothing_over (n * 2 ^ d) a.frac in
    ap (λ (x : ℕ). nat_eq x 0) over

-- 0 is whole at every fraction
pub is_whole-zero : (a : Num) (frac : ℕ) → a.mantissa ≡ pos 0 → is_whole a frac ≡ true
is_whole-zero a frac zero_is =
    let e : 0 * 2 ^ frac ≡ 0 * 2 ^ a.frac = omega arith in
    let over : (0 * 2 ^ frac) % 2 ^ a.frac ≡ 0 = ap (λ (x : ℕ). x % 2 ^ a.frac) e ∙ nothing_over 0 a.frac in
    ap (λ (z : ℤ). nat_eq ((unsigned_abs z * 2 ^ frac) % 2 ^ a.frac) 0) zero_is ∙ ap (λ (x : ℕ). nat_eq x 0) over

-- a multiple is 0 exactly where the number is
test_of_product : (x p : ℕ) → 0 < p → nat_eq (x * p) 0 ≡ nat_eq x 0
test_of_product x p some = grind (arith, nat_tests)

-- at a lower fraction a number is whole where the bits after it are 0
pub is_whole-dropped : (a : Num) (frac : ℕ) → frac ≤ a.frac
    → is_whole a frac ≡ nat_eq (unsigned_abs a.mantissa % 2 ^ (a.frac - frac)) 0
is_whole-dropped a frac below =
    let n = unsigned_abs a.mantissa in
    let d = a.frac - frac in
    let parts : a.frac ≡ d + frac = omega arith in
    let over : (n * 2 ^ frac) % 2 ^ (d + frac) ≡ (n % 2 ^ d) * 2 ^ frac =
    omega (arith, mod-pow-add (n * 2 ^ frac) d frac, nothing_over n frac, ap (λ (x : ℕ). (x % 2 ^ d) * 2 ^ frac) (shl-shr n frac)) in
    ap (λ (x : ℕ). nat_eq ((n * 2 ^ frac) % 2 ^ x) 0) parts ∙ ap (λ (x : ℕ). nat_eq x 0) over
    ∙ test_of_product (n % 2 ^ d) (2 ^ frac) (pow_pos frac)

-- a number that isn't 0 has a bit among its first 128
pub is_whole-far : (a : Num) (frac : ℕ) → (cast_unsigned w128 a.mantissa ≡ 0 → ⊥) → unsigned_abs a.mantissa ≤ 2 ^ 127
    → 128 ≤ a.frac - frac → is_whole a frac ≡ false
is_whole-far a frac other fits far =
    let n = unsigned_abs a.mantissa in
    let small : n < 2 ^ (a.frac - frac) = omega (arith, power-le 128 (a.frac - frac) far) in
    let some : 0 < n = abs_positive a.mantissa other in
    is_whole-dropped a frac (omega arith) ∙ ap (λ (x : ℕ). nat_eq x 0) (mod-eq_of_lt small) ∙ grind (arith, nat_tests)

-- ---- sizes

-- a floor by a number above 0 is no greater in magnitude
floor_by_within : (z : ℤ) (n : ℕ) → unsigned_abs (floor_by z n) ≤ unsigned_abs z
floor_by_within (pos a) n = div-le_self a n
floor_by_within (negsuc a) n = omega (arith, div-le_self a n)

-- a number that is small at both fractions
pub floored-within : (a : Num) (frac m : ℕ) → unsigned_abs a.mantissa ≤ m → unsigned_abs (scaled a frac) ≤ m
    → unsigned_abs (floored a frac) ≤ m
floored-within a frac m own brought =
    let raised : a.frac ≤ frac → unsigned_abs (floored a frac) ≤ m =
    λ above. let e = ap (λ (z : ℤ). unsigned_abs z) (floored-raised a frac above) in omega arith in
    let dropped : frac < a.frac → unsigned_abs (floored a frac) ≤ m =
    λ below. let e = ap (λ (z : ℤ). unsigned_abs z) (floored-dropped a frac (omega arith)) in
    omega (arith, floor_by_within a.mantissa (2 ^ (a.frac - frac))) in
    ⊎_elim dropped raised (cases_lt frac a.frac)

-- a product with a power is at least as great in magnitude
pub scaled-grows : (a : Num) (frac : ℕ) → unsigned_abs a.mantissa ≤ unsigned_abs (scaled a frac)
scaled-grows a frac =
    let n = unsigned_abs a.mantissa in
    let p = 2 ^ (frac - a.frac) in
    omega (arith, unsigned_abs-mul a.mantissa (pos p), mul-le n 1 n p (omega arith) (pow_pos (frac - a.frac)))

-- at most 32 bits are added to a mantissa of at most 65
pub scaled-within : (a : Num) (frac : ℕ) → frac ≤ 32 → unsigned_abs a.mantissa ≤ 2 ^ 64
    → unsigned_abs (scaled a frac) ≤ 2 ^ 100
scaled-within a frac few small =
    let n = unsigned_abs a.mantissa in
    let p = 2 ^ (frac - a.frac) in
    let h : p ≤ 2 ^ 32 = power-le (frac - a.frac) 32 (omega arith) in
    omega (arith, unsigned_abs-mul a.mantissa (pos p), mul-le n p (2 ^ 64) (2 ^ 32) small h)
