-- Numbers of a size have room in the types that are chosen for them.
use Rattle.std.proofs.Common.{◌≡◌, ℕ, ◌+◌, ◌-◌, ◌^◌, ◌<◌, ◌≤◌, nat_le, ℤ, unsigned_abs, Bool, true, false, cond, refl}
use Rattle.std.proofs.Common.{ap, arith}
use Rattle.std.proofs.lemmas.Nat.{pow-add, pow_pos}
use Rattle.std.proofs.lemmas.Int.{ints}
use Rattle.std.proofs.lemmas.Bool.Decides.{nat_tests}
use Rattle.fixed_point.proofs.Powers.{power-le}
use Rattle.c_subset.specs.declared.trees.Width.{Width}
use Rattle.c_subset.specs.declared.trees.Width.TheVariants.{W8, W16, W32, W64, W128}
use Rattle.c_subset.specs.declared.trees.CType.TheVariants.{Signed}
use Rattle.c_subset.specs.Meaning.{bits, fits_signed, Wrong, gives, as_signed, one_if}
use Rattle.c_functions.specs.Translation.{width_for}

-- a number of a size fits a signed type of two bits more
pub size-fits : (n size : ℕ) (z : ℤ) → size + 1 < n → unsigned_abs z ≤ 2 ^ size → fits_signed n z ≡ true
size-fits n size z room small =
    let wider = power-le (size + 1) (n - 1) (omega arith) in
    let twice = pow-add 2 size 1 in
    let some = pow_pos size in
    let room' : 2 ^ size < 2 ^ (n - 1) = omega (arith, wider, twice, some) in
    grind (arith, ints)

-- so it is brought to that type as it is
pub signed-stays : (w : Width) (size : ℕ) (z : ℤ) → size + 1 < bits w → unsigned_abs z ≤ 2 ^ size
    → as_signed w z ≡ gives (Signed w) z
signed-stays w size z room small =
    ap (λ (b : Bool). cond b (gives (Signed w) z) Wrong) (size-fits (bits w) size z room small)

-- the type that is chosen for a size has room for it
pub width_for-room : (size : ℕ) → size ≤ 100 → size + 1 < bits (width_for size)
width_for-room size most = at (nat_le size 30) (nat_le size 62) refl refl
  where
    at : (few some : Bool) → nat_le size 30 ≡ few → nat_le size 62 ≡ some
        → size + 1 < bits (cond few W32 (cond some W64 W128))
    at true some e f = let h : size ≤ 30 = grind (arith, nat_tests) in omega arith
    at false true e f = let h : size ≤ 62 = grind (arith, nat_tests) in omega arith
    at false false e f = omega arith

-- 0 and 1 fit every signed type
pub one-stays : (w : Width) (b : Bool) → as_signed w (one_if b) ≡ gives (Signed w) (one_if b)
one-stays W8 true = refl
one-stays W8 false = refl
one-stays W16 true = refl
one-stays W16 false = refl
one-stays W32 true = refl
one-stays W32 false = refl
one-stays W64 true = refl
one-stays W64 false = refl
one-stays W128 true = refl
one-stays W128 false = refl
