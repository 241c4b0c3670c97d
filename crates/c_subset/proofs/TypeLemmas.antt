-- Signed types: which values fit, and what two of them have in common.
use Rattle.std.proofs.Common.{◌≡◌, ℕ, ◌-◌, ◌≤◌, nat_eq, nat_lt, ℤ, Bool, true, false, cond, refl, ap, ◌∙◌, arith}
use Rattle.std.proofs.lemmas.Int.{ints}
use Rattle.std.proofs.lemmas.Bool.{ltb-false}
use Rattle.std.proofs.lemmas.Bool.Decides.{nat_tests}
use Rattle.fixed_point.proofs.Powers.{power-le}
use Rattle.c_subset.specs.Trees.{Width, W8, W16, W32, W64, W128, CType, Signed, Unsigned, Truth}
use Rattle.c_subset.specs.Meaning.{bits, fits_signed, Wrong, gives, as_signed, promoted, common_of, common, one_if}
use Rattle.c_subset.specs.Meaning.{is_true}
use Rattle.c_subset.specs.Running.{same_type}

-- a value of a signed type is one of each wider one
pub fits-wider : (n m : ℕ) (z : ℤ) → n ≤ m → fits_signed n z ≡ true → fits_signed m z ≡ true
fits-wider n m z within fits =
    let wider = power-le (n - 1) (m - 1) (omega (arith, within)) in
    grind (arith, ints)

-- so it is brought to that type as it is
pub fitting-stays : (n : ℕ) (w : Width) (z : ℤ) → n ≤ bits w → fits_signed n z ≡ true → as_signed w z ≡ gives
    (Signed w) z
fitting-stays n w z within fits = ap (λ (b : Bool). cond b (gives (Signed w) z) Wrong)
    (fits-wider n (bits w) z within fits)

-- a signed type that is promoted
pub record IsPromoted (int w : Width) : Type 0 where
  pub to : Width
  pub is : promoted int (Signed w) ≡ Signed to
  pub wider : bits w ≤ bits to

-- is a signed type at least as wide
pub promoted-signed : (int w : Width) → IsPromoted int w
promoted-signed int w = at (nat_lt (bits w) (bits int)) refl
  where
    at : (b : Bool) → nat_lt (bits w) (bits int) ≡ b → IsPromoted int w
    at true e = record {
      to = int;
      is = ap (λ (b : Bool). cond b (Signed int) (Signed w)) e;
      wider = grind (arith, nat_tests);
    }
    at false e = record {
      to = w;
      is = ap (λ (b : Bool). cond b (Signed int) (Signed w)) e;
      wider = omega arith;
    }

-- the common type of values of two signed types
pub record IsCommon (t : CType) (a b : Width) : Type 0 where
  pub to : Width
  pub is : t ≡ Signed to
  pub left : bits a ≤ bits to
  pub right : bits b ≤ bits to

-- of two signed types it is the wider
common-wider : (a b : Width) → IsCommon (common_of (Signed a) (Signed b)) a b
common-wider a b = at (nat_lt (bits a) (bits b)) refl
  where
    at : (c : Bool) → nat_lt (bits a) (bits b) ≡ c → IsCommon (common_of (Signed a) (Signed b)) a b
    at true e = record {
      to = b;
      is = ap (λ (c : Bool). cond c (Signed b) (Signed a)) e;
      left = grind (arith, nat_tests);
      right = omega arith;
    }
    at false e = record {
      to = a;
      is = ap (λ (c : Bool). cond c (Signed b) (Signed a)) e;
      left = omega arith;
      right = ltb-false (bits a) (bits b) e;
    }

-- so it is at least as wide after promotion
pub common-signed : (int a b : Width) → IsCommon (common int (Signed a) (Signed b)) a b
common-signed int a b =
    let p = promoted-signed int a in
    let q = promoted-signed int b in
    let c = common-wider p.to q.to in
    record {
      to = c.to;
      is = ap (λ (t : CType). common_of t (promoted int (Signed b))) p.is ∙ ap
          (λ (t : CType). common_of (Signed p.to) t) q.is ∙ c.is;
      left = omega (arith, p.wider, c.left);
      right = omega (arith, q.wider, c.right);
    }

-- 0 and 1 fit every signed type
pub one-fits : (w : Width) (b : Bool) → fits_signed (bits w) (one_if b) ≡ true
one-fits W8 true = refl
one-fits W8 false = refl
one-fits W16 true = refl
one-fits W16 false = refl
one-fits W32 true = refl
one-fits W32 false = refl
one-fits W64 true = refl
one-fits W64 false = refl
one-fits W128 true = refl
one-fits W128 false = refl

-- a truth value is true where it was
pub truth-stays : (b : Bool) → is_true (one_if b) ≡ b
truth-stays true = refl
truth-stays false = refl

-- a type is the same as itself
pub same_type-itself : (t : CType) → same_type t t ≡ true
same_type-itself (Signed w) = let same : nat_eq (bits w) (bits w) ≡ true = grind arith in same
same_type-itself (Unsigned w) = let same : nat_eq (bits w) (bits w) ≡ true = grind arith in same
same_type-itself Truth = refl
