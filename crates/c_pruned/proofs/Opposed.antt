-- Tests the other way round, and tests that are constants.
use Rattle.std.proofs.Common.{◌≡◌, ◌==◌, ℤ, pos, negsuc, int_le, int_lt, ◌&&◌, not, Bool, true, false, cond}
use Rattle.std.proofs.Common.{Some, None, refl, sym, ap, ◌∙◌, subst, arith}
use Rattle.std.proofs.lemmas.Int.{ints}
use Rattle.c_subset.specs.declared.trees.Width.{Width}
use Rattle.c_subset.specs.declared.trees.Width.TheVariants.{W8, W16, W32, W64, W128}
use Rattle.c_subset.specs.declared.trees.CType.{CType}
use Rattle.c_subset.specs.declared.trees.CType.TheVariants.{Signed, Unsigned, Truth}
use Rattle.c_subset.specs.declared.trees.Comparison.{Comparison}
use Rattle.c_subset.specs.declared.trees.Comparison.TheVariants.{IsEqual, IsUnequal, IsBelow, IsAtMost, IsAbove}
use Rattle.c_subset.specs.declared.trees.Comparison.TheVariants.{IsAtLeast}
use Rattle.c_subset.specs.Trees.{CExpr, Const, Bang, Compare, Both, Either}
use Rattle.c_subset.specs.Meaning.{CValue, Meaning, Gives, Wrong, with_meaning, gives, converted, one_if, is_true}
use Rattle.c_subset.specs.Meaning.{bits, fits_signed, passes, truth, compared, common, Store, Locals, meaning}
use Rattle.c_subset.specs.Running.{Outcome, with_value}
use Rattle.c_pruned.specs.Tests.{truth_of_number, truth_of, opposite, is_simple, flipped, negated}
use Rattle.c_pruned.proofs.Kept.{Kept}

-- ---- truth

-- a truth value is true where it is
pub truth-is : (b : Bool) → is_true (one_if b) ≡ b
truth-is true = refl
truth-is false = refl

not-not : (b : Bool) → b ≡ not (not b)
not-not true = refl
not-not false = refl

-- ---- a test, the other way round

-- the second has a value where the first one has, which is true where that isn't
abbrev pub Opposes : Meaning → Meaning → Type 0
Opposes (Gives x) n = (y : CValue) × (n ≡ Gives y) × (is_true y.value ≡ not (is_true x.value))
Opposes Wrong n = Unit {0}

truth-opposes : (int : Width) (b c : Bool) → c ≡ not b → Opposes (truth int b) (truth int c)
truth-opposes int b c e = (_, refl, truth-is c ∙ e ∙ ap not (sym (truth-is b)))

bang-opposes : (int : Width) (m : Meaning) → Opposes m (with_meaning m (λ x. truth int (not (is_true x.value))))
bang-opposes int (Gives x) = (_, refl, truth-is (not (is_true x.value)))
bang-opposes int Wrong = tt

banged-opposes : (int : Width) (m : Meaning) → Opposes (with_meaning m (λ x. truth int (not (is_true x.value)))) m
banged-opposes int (Gives x) =
    (x, refl, not-not (is_true x.value) ∙ ap not (sym (truth-is (not (is_true x.value)))))
banged-opposes int Wrong = tt

below-is : (x y : ℤ) → int_lt x y ≡ not (int_le y x)
below-is x y = at (int_le y x) refl
  where
    at : (b : Bool) → int_le y x ≡ b → int_lt x y ≡ not b
    at true e = grind (arith, ints)
    at false e = grind (arith, ints)

passes-opposite : (op : Comparison) (x y : ℤ) → passes (opposite op) x y ≡ not (passes op x y)
passes-opposite IsEqual x y = refl
passes-opposite IsUnequal x y = not-not (int_le x y && int_le y x)
passes-opposite IsBelow x y = not-not (int_le y x) ∙ ap not (sym (below-is x y))
passes-opposite IsAtMost x y = below-is y x
passes-opposite IsAbove x y = not-not (int_le x y) ∙ ap not (sym (below-is y x))
passes-opposite IsAtLeast x y = below-is x y

compare-opposes : (int : Width) (op : Comparison) (m n : Meaning)
    → Opposes (with_meaning m (λ x. with_meaning n (compared int op x)))
    (with_meaning m (λ x. with_meaning n (compared int (opposite op) x)))
compare-opposes int op Wrong n = tt
compare-opposes int op (Gives x) Wrong = tt
compare-opposes int op (Gives x) (Gives y) =
    at (converted (common int x.type y.type) x.value) (converted (common int x.type y.type) y.value)
  where
    at : (a b : Meaning)
        → Opposes (with_meaning a (λ a. with_meaning b (λ b. truth int (passes op a.value b.value))))
        (with_meaning a (λ a. with_meaning b (λ b. truth int (passes (opposite op) a.value b.value))))
    at Wrong b = tt
    at (Gives a) Wrong = tt
    at (Gives a) (Gives b) =
        truth-opposes int (passes op a.value b.value) (passes (opposite op) a.value b.value)
        (passes-opposite op a.value b.value)

-- the second operand of && and ||, as a truth value
abbrev second : Width → Meaning → Meaning
second int m = with_meaning m (λ y. truth int (is_true y.value))

second-opposes : (int : Width) (m n : Meaning) → Opposes m n → Opposes (second int m) (second int n)
second-opposes int Wrong n h = tt
second-opposes int (Gives x) n (y, e, t) =
    subst (λ (n : Meaning). Opposes (second int (Gives x)) (second int n)) (sym e)
    (truth-opposes int (is_true x.value) (is_true y.value) t)

both-opposes : (int : Width) (ma mb na nb : Meaning) → Opposes ma na → Opposes mb nb
    → Opposes (with_meaning ma (λ x. cond (is_true x.value) (second int mb) (truth int false)))
    (with_meaning na (λ x. cond (is_true x.value) (truth int true) (second int nb)))
both-opposes int Wrong mb na nb h i = tt
both-opposes int (Gives x) mb na nb (y, e, t) i =
    subst (λ (n : Meaning). Opposes (cond (is_true x.value) (second int mb) (truth int false))
    (with_meaning n (λ x. cond (is_true x.value) (truth int true) (second int nb)))) (sym e)
    (at (is_true x.value) (is_true y.value) t)
  where
    at : (p q : Bool) → q ≡ not p
        → Opposes (cond p (second int mb) (truth int false)) (cond q (truth int true) (second int nb))
    at true true e = absurd cc
    at true false e = second-opposes int mb nb i
    at false true e = truth-opposes int false true refl
    at false false e = absurd cc

either-opposes : (int : Width) (ma mb na nb : Meaning) → Opposes ma na → Opposes mb nb
    → Opposes (with_meaning ma (λ x. cond (is_true x.value) (truth int true) (second int mb)))
    (with_meaning na (λ x. cond (is_true x.value) (second int nb) (truth int false)))
either-opposes int Wrong mb na nb h i = tt
either-opposes int (Gives x) mb na nb (y, e, t) i =
    subst (λ (n : Meaning). Opposes (cond (is_true x.value) (truth int true) (second int mb))
    (with_meaning n (λ x. cond (is_true x.value) (second int nb) (truth int false)))) (sym e)
    (at (is_true x.value) (is_true y.value) t)
  where
    at : (p q : Bool) → q ≡ not p
        → Opposes (cond p (truth int true) (second int mb)) (cond q (second int nb) (truth int false))
    at true true e = absurd cc
    at true false e = truth-opposes int true false refl
    at false true e = second-opposes int mb nb i
    at false false e = absurd cc

module _ (int : Width) (s : Store) (l : Locals) where
  abbrev Opposed : CExpr → CExpr → Type 0
  Opposed e f = Opposes (meaning int s l e) (meaning int s l f)

  -- !e
  banged : (e : CExpr) → Opposed e (Bang e)
  unfolding meaning
  banged e = bang-opposes int (meaning int s l e)

  flips : (e : CExpr) → Opposed e (flipped e)
  unfolding meaning
  flips (Bang e) = banged-opposes int (meaning int s l e)
  flips (Compare op a b) = compare-opposes int op (meaning int s l a) (meaning int s l b)
  flips e = banged e

  pub negates : (e : CExpr) → Opposed e (negated e)
  unfolding meaning
  negates (Both a b) = at (is_simple a && is_simple b)
    where
      at : (c : Bool) → Opposed (Both a b) (cond c (Either (flipped a) (flipped b)) (Bang (Both a b)))
      at true =
          both-opposes int (meaning int s l a) (meaning int s l b) (meaning int s l (flipped a))
          (meaning int s l (flipped b)) (flips a) (flips b)
      at false = banged (Both a b)
  negates (Either a b) = at (is_simple a && is_simple b)
    where
      at : (c : Bool) → Opposed (Either a b) (cond c (Both (flipped a) (flipped b)) (Bang (Either a b)))
      at true =
          either-opposes int (meaning int s l a) (meaning int s l b) (meaning int s l (flipped a))
          (meaning int s l (flipped b)) (flips a) (flips b)
      at false = banged (Either a b)
  negates e = flips e

-- what goes on by the truth of a test goes on by that of the other one
pub opposed-kept : (m n : Meaning) (f g : Bool → Outcome) → Opposes m n → ((b : Bool) → Kept (f b) (g (not b)))
    → Kept (with_value m (λ x. f (is_true x.value))) (with_value n (λ x. g (is_true x.value)))
opposed-kept Wrong n f g h k = tt
opposed-kept (Gives x) n f g (y, e, t) k =
    subst (λ (n : Meaning). Kept (f (is_true x.value)) (with_value n (λ x. g (is_true x.value)))) (sym e)
    (subst (λ (b : Bool). Kept (f (is_true x.value)) (g b)) (sym t) (k (is_true x.value)))

-- ---- constants

-- if there is a value, it is true or not as that says
abbrev Tells : Bool → Meaning → Type 0
Tells b (Gives x) = is_true x.value ≡ b
Tells b Wrong = Unit {0}

-- 0 and 1 are the same numbers in each type
unsigned-tells : (w : Width) (b : Bool) → Tells b (converted (Unsigned w) (one_if b))
unsigned-tells W8 true = refl
unsigned-tells W8 false = refl
unsigned-tells W16 true = refl
unsigned-tells W16 false = refl
unsigned-tells W32 true = refl
unsigned-tells W32 false = refl
unsigned-tells W64 true = refl
unsigned-tells W64 false = refl
unsigned-tells W128 true = refl
unsigned-tells W128 false = refl

one-tells : (t : CType) (b : Bool) → Tells b (converted t (one_if b))
one-tells (Signed w) b = at (fits_signed (bits w) (one_if b))
  where
    at : (c : Bool) → Tells b (cond c (gives (Signed w) (one_if b)) Wrong)
    at true = truth-is b
    at false = tt
one-tells (Unsigned w) b = unsigned-tells w b
one-tells Truth b = truth-is (is_true (one_if b)) ∙ truth-is b

-- the number that it is
number-is : (z : ℤ) (b : Bool) → truth_of_number z ≡ Some b → z ≡ one_if b
number-is (negsuc n) b h = absurd cc
number-is (pos n) b h = at (n == 0) (n == 1) refl refl h
  where
    at : (p q : Bool) → (n == 0) ≡ p → (n == 1) ≡ q
        → cond p (Some false) (cond q (Some true) None) ≡ Some b → pos n ≡ one_if b
    at true q e f h =
        let zero-is : n ≡ 0 = grind (arith, e) in
        let no : false ≡ b = cc in
        ap pos zero-is ∙ ap one_if no
    at false true e f h =
        let one-is : n ≡ 1 = grind (arith, f) in
        let yes : true ≡ b = cc in
        ap pos one-is ∙ ap one_if yes
    at false false e f h = absurd cc

known-tells : (int : Width) (s : Store) (l : Locals) (e : CExpr) (b : Bool) → truth_of e ≡ Some b
    → Tells b (meaning int s l e)
unfolding meaning
known-tells int s l (Const t z) b h =
    subst (λ (z : ℤ). Tells b (converted t z)) (sym (number-is z b h)) (one-tells t b)
known-tells int s l e b h = absurd cc

-- what goes on by the truth of a constant goes on as that says
pub known-kept : (int : Width) (s : Store) (l : Locals) (e : CExpr) (b : Bool) (f : Bool → Outcome) (o : Outcome)
    → truth_of e ≡ Some b → Kept (f b) o → Kept (with_value (meaning int s l e) (λ x. f (is_true x.value))) o
known-kept int s l e b f o h k = at (meaning int s l e) (known-tells int s l e b h)
  where
    at : (m : Meaning) → Tells b m → Kept (with_value m (λ x. f (is_true x.value))) o
    at (Gives x) t = subst (λ (b : Bool). Kept (f b) o) (sym t) k
    at Wrong t = tt
