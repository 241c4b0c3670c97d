-- A value of a type is brought to it as it is.
use Rattle.std.proofs.Common.{◌≡◌, ◌==◌, ℕ, ◌-◌, ◌%◌, ◌^◌, ◌<◌, ℤ, pos, negsuc, Bool, true, false, cond, refl, sym, ap, ◌∙◌, arith}
use Rattle.std.specs.Int.{int_rem_euclid}
use Rattle.std.proofs.Math.Nat.{mod-mod, mod-eq_of_lt}
use Rattle.std.proofs.lemmas.Nat.{mod_below}
use Rattle.c_subset.specs.declared.trees.Width.{Width}
use Rattle.c_subset.specs.declared.trees.Width.TheVariants.{W8, W16, W32, W64, W128}
use Rattle.c_subset.specs.declared.trees.CType.{CType}
use Rattle.c_subset.specs.declared.trees.CType.TheVariants.{Signed, Unsigned, Truth}
use Rattle.c_subset.specs.Meaning.{bits, CValue, Meaning, Gives, Wrong, fits_signed, gives, converted, one_if, is_true}
use Rattle.c_subset.specs.Running.{same_type}
use Rattle.c_subset.proofs.TypeLemmas.{truth-stays}

-- the number that an expression gives
abbrev pub value-of : Meaning → ℤ
value-of (Gives x) = x.value
value-of Wrong = pos 0

signed-stays : (w : Width) (z : ℤ) (b : Bool) → fits_signed (bits w) z ≡ b → (y : CValue)
    → cond b (gives (Signed w) z) Wrong ≡ Gives y → converted (Signed w) y.value ≡ Gives y
signed-stays w z true is y e =
    let same : z ≡ y.value = ap value-of e in
    ap (λ (v : ℤ). converted (Signed w) v) (sym same) ∙ ap (λ (b : Bool). cond b (gives (Signed w) z) Wrong) is ∙ e
signed-stays w z false is y e = absurd cc

modulus : (w : Width) → 0 < 2 ^ bits w
modulus W8 = omega arith
modulus W16 = omega arith
modulus W32 = omega arith
modulus W64 = omega arith
modulus W128 = omega arith

-- a remainder is its own
rem-of-rem : (z : ℤ) (m : ℕ) → 0 < m → int_rem_euclid (int_rem_euclid z (pos m)) (pos m) ≡ int_rem_euclid z (pos m)
rem-of-rem (pos a) m over = ap (λ (n : ℕ). pos n) (mod-mod a m)
rem-of-rem (negsuc a) m over =
    ap (λ (n : ℕ). pos n) (mod-eq_of_lt {n = m - 1 - a % m} {m = m} (omega (arith, over, mod_below a m over)))

-- what was brought to a type is brought to it again as it is
pub converted-stays : (t : CType) (z : ℤ) (y : CValue) → converted t z ≡ Gives y → converted t y.value ≡ Gives y
converted-stays (Signed w) z y e = signed-stays w z (fits_signed (bits w) z) refl y e
converted-stays (Unsigned w) z y e =
    let same : int_rem_euclid z (pos (2 ^ bits w)) ≡ y.value = ap value-of e in
    ap (λ (v : ℤ). converted (Unsigned w) v) (sym same) ∙ ap (λ (v : ℤ). gives (Unsigned w) v) (rem-of-rem z (2 ^ bits w) (modulus w)) ∙ e
converted-stays Truth z y e =
    let same : one_if (is_true z) ≡ y.value = ap value-of e in
    ap (λ (v : ℤ). converted Truth v) (sym same)
    ∙ ap (λ (b : Bool). gives Truth (one_if b)) (truth-stays (is_true z)) ∙ e

-- ---- types

same-width : (v w : Width) → (bits v == bits w) ≡ true → v ≡ w
same-width W8 W8 e = refl
same-width W16 W16 e = refl
same-width W32 W32 e = refl
same-width W64 W64 e = refl
same-width W128 W128 e = refl
same-width v w e = absurd cc

-- what has the same type has it
pub type-is : (u t : CType) → same_type u t ≡ true → u ≡ t
type-is (Signed v) (Signed w) e = ap (λ (w : Width). Signed w) (same-width v w e)
type-is (Unsigned v) (Unsigned w) e = ap (λ (w : Width). Unsigned w) (same-width v w e)
type-is Truth Truth e = refl
type-is u t e = absurd cc
