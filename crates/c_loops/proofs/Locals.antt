-- Locals of which more have a value: expressions mean the same.
use Rattle.std.proofs.Common.{◌≡◌, ℕ, ◌-◌, ◌^◌, ◌%◌, ◌<◌, nat_eq, ℤ, pos, negsuc, Bool, true, false, cond, ◌&&◌, Option}
use Rattle.std.proofs.Common.{Some, None, ◌⊎◌, slice_get, not, refl, sym, ap, ◌∙◌, subst, arith, inl, inr, mod-lt}
use Rattle.std.specs.Int.{int_rem_euclid}
use Rattle.std.proofs.lemmas.Nat.{pow_pos}
use Rattle.std.proofs.lemmas.Bool.Decides.{nat_tests}
use Rattle.c_subset.specs.declared.trees.Width.{Width}
use Rattle.c_subset.specs.declared.trees.Width.TheVariants.{W8, W16, W32, W64, W128}
use Rattle.c_subset.specs.declared.trees.CType.{CType}
use Rattle.c_subset.specs.declared.trees.CType.TheVariants.{Signed, Unsigned, Truth}
use Rattle.c_subset.specs.Trees.{CExpr, Const, Field, Element, Local, Cast, Minus, Bang, Calc, Divide, Bits, Compare}
use Rattle.c_subset.specs.Trees.{Both, Either, Choose}
use Rattle.c_subset.specs.Meaning.{bits, fits_signed, CValue, Meaning, Gives, Wrong, with_meaning, gives, as_signed}
use Rattle.c_subset.specs.Meaning.{as_unsigned, one_if, is_true, converted, promoted, negated, calculated, divided}
use Rattle.c_subset.specs.Meaning.{combined, compared, truth, read_as, read, element, Store, Locals, meaning}
use Rattle.c_subset.specs.Running.{same_type, no_locals, with_local}
use Rattle.c_subset.proofs.TypeLemmas.{truth-stays}
use Rattle.c_functions.proofs.LayoutTests.{own-stays}

-- ---- types

same-width : (v w : Width) → nat_eq (bits v) (bits w) ≡ true → v ≡ w
same-width W8 W8 e = refl
same-width W16 W16 e = refl
same-width W32 W32 e = refl
same-width W64 W64 e = refl
same-width W128 W128 e = refl
same-width v w e = absurd cc

-- what has the same type has it
pub type-is : (u t : CType) → same_type u t ≡ true → u ≡ t
type-is (Signed v) (Signed w) e = ap (λ (w : Width). Signed w) (same-width v w e)
type-is (Unsigned v) (Unsigned w) e = ap (λ (w : Width). Unsigned w) (same-width v w e)
type-is Truth Truth e = refl
type-is u t e = absurd cc

-- the value that a meaning has
abbrev pub value_in : Meaning → ℤ
value_in (Gives y) = y.value
value_in Wrong = pos 0

-- a remainder is a number below the divisor
pub rest-below : (z : ℤ) (m : ℕ) → 0 < m → (r : ℕ) × (int_rem_euclid z (pos m) ≡ pos r) × (r < m)
rest-below (pos a) m some = (a % m, refl, mod-lt a some)
rest-below (negsuc a) m some = (m - 1 - a % m, refl, omega (arith, some))

-- a value that was brought to a type is brought to it as it is
pub converted-again : (t : CType) (x : ℤ) (y : CValue) → converted t x ≡ Gives y
    → converted t y.value ≡ gives t y.value
converted-again (Signed w) x y e = at (fits_signed (bits w) x) refl e
  where
    at : (b : Bool) → fits_signed (bits w) x ≡ b → cond b (gives (Signed w) x) Wrong ≡ Gives y
        → as_signed w y.value ≡ gives (Signed w) y.value
    at true f e =
        ap (λ (z : ℤ). as_signed w z) (sym (ap value_in e))
        ∙ ap (λ (b : Bool). cond b (gives (Signed w) x) Wrong) f ∙ ap (gives (Signed w)) (ap value_in e)
    at false f e = absurd cc
converted-again (Unsigned w) x y e =
    let r = rest-below x (2 ^ bits w) (pow_pos (bits w)) in
    let is : y.value ≡ pos r.0 = sym (ap value_in e) ∙ r.1 in
    ap (λ (z : ℤ). as_unsigned w z) is ∙ own-stays w r.0 r.2 ∙ ap (gives (Unsigned w)) (sym is)
converted-again Truth x y e =
    let is : y.value ≡ one_if (is_true x) = sym (ap value_in e) in
    ap (λ (z : ℤ). converted Truth z) is
    ∙ ap (λ (b : Bool). gives Truth (one_if b)) (truth-stays (is_true x)) ∙ ap (gives Truth) (sym is)

-- ---- locals

-- each local that has a value has the same one there
abbrev pub More : Locals → Locals → Type 0
More l m = (t : CType) (i : ℕ) (z : ℤ) → l t i ≡ Some z → m t i ≡ Some z

-- each value is one of the type of its local
abbrev pub AreTyped : Locals → Type 0
AreTyped l = (t : CType) (i : ℕ) (z : ℤ) → l t i ≡ Some z → converted t z ≡ gives t z

-- both
pub record Fits (l m : Locals) : Type 0 where
  pub more : More l m
  pub typed : AreTyped l

pub none-typed : AreTyped no_locals
none-typed t i z e = absurd cc

pub put-typed : (l : Locals) (t : CType) (i : ℕ) (z : ℤ) → AreTyped l → converted t z ≡ gives t z
    → AreTyped (with_local l t i z)
put-typed l t i z typed one u j w e = at (nat_eq j i) (same_type u t) refl e
  where
    at : (a b : Bool) → same_type u t ≡ b → cond (a && b) (Some z) (l u j) ≡ Some w → converted u w ≡ gives u w
    at true true s e =
        let same : z ≡ w = cc in
        subst (λ (x : ℤ). converted u x ≡ gives u x) same
        (subst (λ (t : CType). converted t z ≡ gives t z) (sym (type-is u t s)) one)
    at true false s e = typed u j w e
    at false true s e = typed u j w e
    at false false s e = typed u j w e

put-both : (l m : Locals) → More l m → (t : CType) (i : ℕ) (z : ℤ) → More (with_local l t i z) (with_local m t i z)
put-both l m more t i z u j w e = at (nat_eq j i && same_type u t) e
  where
    at : (b : Bool) → cond b (Some z) (l u j) ≡ Some w → cond b (Some z) (m u j) ≡ Some w
    at true e = e
    at false e = more u j w e

-- a value that is there already
pub put-there : (l m : Locals) → More l m → (t : CType) (i : ℕ) (z : ℤ) → m t i ≡ Some z
    → More (with_local l t i z) m
put-there l m more t i z there u j w e = at (nat_eq j i) (same_type u t) refl refl e
  where
    at : (a b : Bool) → nat_eq j i ≡ a → same_type u t ≡ b → cond (a && b) (Some z) (l u j) ≡ Some w → m u j ≡ Some w
    at true true p s e =
        let same : j ≡ i = grind (arith, nat_tests) in
        ap (λ (u : CType). m u j) (type-is u t s) ∙ ap (λ (j : ℕ). m t j) same ∙ there ∙ e
    at true false p s e = more u j w e
    at false true p s e = more u j w e
    at false false p s e = more u j w e

pub none-more : (m : Locals) → More no_locals m
none-more m t i z e = absurd cc

-- a local with a value of its type
pub put-fits : (l m : Locals) (t : CType) (i : ℕ) (x : ℤ) (y : CValue) → converted t x ≡ Gives y → Fits l m
    → Fits (with_local l t i y.value) (with_local m t i y.value)
put-fits l m t i x y e fits = record {
  more = put-both l m fits.more t i y.value;
  typed = put-typed l t i y.value fits.typed (converted-again t x y e);
}

-- ---- expressions

-- the second is the first, unless that has no meaning
abbrev pub Clearer : Meaning → Meaning → Type 0
Clearer a b = (a ≡ Wrong) ⊎ (b ≡ a)

with-clearer : (a b : Meaning) (f g : CValue → Meaning) → Clearer a b → ((x : CValue) → Clearer (f x) (g x))
    → Clearer (with_meaning a f) (with_meaning b g)
with-clearer a b f g (inl e) h = inl (ap (λ (m : Meaning). with_meaning m f) e)
with-clearer a b f g (inr e) h = subst (λ (c : Meaning). Clearer (with_meaning a f) (with_meaning c g)) (sym e) (at a)
  where
    at : (a : Meaning) → Clearer (with_meaning a f) (with_meaning a g)
    at (Gives x) = h x
    at Wrong = inl refl

cond-clearer : (c : Bool) (a b a' b' : Meaning) → Clearer a a' → Clearer b b' → Clearer (cond c a b) (cond c a' b')
cond-clearer true a b a' b' h i = h
cond-clearer false a b a' b' h i = i

module _ (int : Width) (s : Store) (l m : Locals) (more : More l m) where
  pub means-more : (e : CExpr) → Clearer (meaning int s l e) (meaning int s m e)
  unfolding meaning
  means-more (Const t z) = inr refl
  means-more (Field f) = inr refl
  means-more (Element a e) =
      with-clearer (meaning int s l e) (meaning int s m e) (λ i. read (element (slice_get s.rows a) i.value))
      (λ i. read (element (slice_get s.rows a) i.value)) (means-more e) (λ i. inr refl)
  means-more (Local t k) = at (l t k) refl
    where
      at : (o : Option ℤ) → l t k ≡ o → Clearer (read_as t (l t k)) (read_as t (m t k))
      at (Some z) e = inr (ap (read_as t) (more t k z e ∙ sym e))
      at None e = inl (ap (read_as t) e)
  means-more (Cast t e) =
      with-clearer (meaning int s l e) (meaning int s m e) (λ x. converted t x.value) (λ x. converted t x.value)
      (means-more e) (λ x. inr refl)
  means-more (Minus e) =
      with-clearer (meaning int s l e) (meaning int s m e) (negated int) (negated int) (means-more e) (λ x. inr refl)
  means-more (Bang e) =
      with-clearer (meaning int s l e) (meaning int s m e) (λ x. truth int (not (is_true x.value)))
      (λ x. truth int (not (is_true x.value))) (means-more e) (λ x. inr refl)
  means-more (Calc op a b) = both a b (calculated int op) (means-more a) (means-more b)
    where
      both : (a b : CExpr) (f : CValue → CValue → Meaning) → Clearer (meaning int s l a) (meaning int s m a)
          → Clearer (meaning int s l b) (meaning int s m b)
          → Clearer (with_meaning (meaning int s l a) (λ x. with_meaning (meaning int s l b) (f x)))
          (with_meaning (meaning int s m a) (λ x. with_meaning (meaning int s m b) (f x)))
      both a b f ha hb =
          with-clearer (meaning int s l a) (meaning int s m a) (λ x. with_meaning (meaning int s l b) (f x))
          (λ x. with_meaning (meaning int s m b) (f x)) ha
          (λ x. with-clearer (meaning int s l b) (meaning int s m b) (f x) (f x) hb (λ y. inr refl))
  means-more (Divide op a b) =
      with-clearer (meaning int s l a) (meaning int s m a) (λ x. with_meaning (meaning int s l b) (divided int op x))
      (λ x. with_meaning (meaning int s m b) (divided int op x)) (means-more a)
      (λ x. with-clearer (meaning int s l b) (meaning int s m b) (divided int op x) (divided int op x) (means-more b)
      (λ y. inr refl))
  means-more (Bits op a b) =
      with-clearer (meaning int s l a) (meaning int s m a) (λ x. with_meaning (meaning int s l b) (combined int op x))
      (λ x. with_meaning (meaning int s m b) (combined int op x)) (means-more a)
      (λ x. with-clearer (meaning int s l b) (meaning int s m b) (combined int op x) (combined int op x)
      (means-more b) (λ y. inr refl))
  means-more (Compare op a b) =
      with-clearer (meaning int s l a) (meaning int s m a) (λ x. with_meaning (meaning int s l b) (compared int op x))
      (λ x. with_meaning (meaning int s m b) (compared int op x)) (means-more a)
      (λ x. with-clearer (meaning int s l b) (meaning int s m b) (compared int op x) (compared int op x)
      (means-more b) (λ y. inr refl))
  means-more (Both a b) =
      with-clearer (meaning int s l a) (meaning int s m a)
      (λ x. cond (is_true x.value) (with_meaning (meaning int s l b) (λ y. truth int (is_true y.value)))
      (truth int false))
      (λ x. cond (is_true x.value) (with_meaning (meaning int s m b) (λ y. truth int (is_true y.value)))
      (truth int false)) (means-more a)
      (λ x. cond-clearer (is_true x.value) (with_meaning (meaning int s l b) (λ y. truth int (is_true y.value)))
      (truth int false) (with_meaning (meaning int s m b) (λ y. truth int (is_true y.value))) (truth int false)
      (with-clearer (meaning int s l b) (meaning int s m b) (λ y. truth int (is_true y.value))
      (λ y. truth int (is_true y.value)) (means-more b) (λ y. inr refl)) (inr refl))
  means-more (Either a b) =
      with-clearer (meaning int s l a) (meaning int s m a)
      (λ x. cond (is_true x.value) (truth int true)
      (with_meaning (meaning int s l b) (λ y. truth int (is_true y.value))))
      (λ x. cond (is_true x.value) (truth int true)
      (with_meaning (meaning int s m b) (λ y. truth int (is_true y.value)))) (means-more a)
      (λ x. cond-clearer (is_true x.value) (truth int true)
      (with_meaning (meaning int s l b) (λ y. truth int (is_true y.value))) (truth int true)
      (with_meaning (meaning int s m b) (λ y. truth int (is_true y.value))) (inr refl)
      (with-clearer (meaning int s l b) (meaning int s m b) (λ y. truth int (is_true y.value))
      (λ y. truth int (is_true y.value)) (means-more b) (λ y. inr refl)))
  means-more (Choose t c a b) =
      with-clearer (meaning int s l c) (meaning int s m c)
      (λ x. with_meaning (cond (is_true x.value) (meaning int s l a) (meaning int s l b)) chosen)
      (λ x. with_meaning (cond (is_true x.value) (meaning int s m a) (meaning int s m b)) chosen) (means-more c)
      (λ x. with-clearer (cond (is_true x.value) (meaning int s l a) (meaning int s l b))
      (cond (is_true x.value) (meaning int s m a) (meaning int s m b)) chosen chosen
      (cond-clearer (is_true x.value) (meaning int s l a) (meaning int s l b) (meaning int s m a) (meaning int s m b)
      (means-more a) (means-more b)) (λ y. inr refl))
    where
      chosen : CValue → Meaning
      chosen y = with_meaning (converted t y.value) (λ z. converted (promoted int t) z.value)

  -- the same, brought to a type
  pub brought-more : (e : CExpr) (f : CValue → Meaning)
      → Clearer (with_meaning (meaning int s l e) f) (with_meaning (meaning int s m e) f)
  brought-more e f =
      with-clearer (meaning int s l e) (meaning int s m e) f f (means-more e) (λ x. inr refl)

-- a value that was brought to a type
pub brought-from : (a : Meaning) (t : CType) (y : CValue) → with_meaning a (λ x. converted t x.value) ≡ Gives y
    → (x : ℤ) × (converted t x ≡ Gives y)
brought-from (Gives x) t y e = (x.value, e)
brought-from Wrong t y e = absurd cc
