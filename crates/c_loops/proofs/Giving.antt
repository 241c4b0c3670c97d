-- Statements that give a result back return it, and leave the struct as it is.
use Rattle.std.proofs.Common.{◌≡◌, ℕ, ◌^◌, ◌<◌, nat_eq, nat_lt, ℤ, pos, negsuc, Bool, true, false, cond, not, ◌&&◌}
use Rattle.std.proofs.Common.{◌||◌, ◌==◌, List, [], ◌∷◌, Option, Some, None, refl, sym, ap, ◌∙◌, subst, arith}
use Rattle.std.specs.List.{list_all, list_any}
use Rattle.std.proofs.lemmas.Bool.Decides.{nat_tests}
use Rattle.c_subset.specs.declared.trees.Width.{Width}
use Rattle.c_subset.specs.declared.trees.Width.TheVariants.{W32}
use Rattle.c_subset.specs.declared.trees.CType.{CType}
use Rattle.c_subset.specs.declared.trees.CType.TheVariants.{Signed}
use Rattle.c_subset.specs.declared.trees.Comparison.{Comparison}
use Rattle.c_subset.specs.declared.trees.Comparison.TheVariants.{IsEqual, IsUnequal, IsBelow, IsAtMost, IsAbove}
use Rattle.c_subset.specs.declared.trees.Comparison.TheVariants.{IsAtLeast}
use Rattle.c_subset.specs.Trees.{CExpr, Const, Local, Bang, Compare, Block, If, Return}
use Rattle.c_subset.specs.Meaning.{CValue, Meaning, Gives, with_meaning, gives, converted, one_if, is_true}
use Rattle.c_subset.specs.Meaning.{passes, truth}
use Rattle.c_subset.specs.Meaning.{compared, read_as, Store, Locals, meaning}
use Rattle.c_subset.specs.Running.{Outcome, Returns, with_value, and_on, same_type, Calls, outcome}
use Rattle.c_subset.proofs.TypeLemmas.{truth-stays}
use Rattle.c_functions.specs.Plans.{word, number}
use Rattle.c_functions.proofs.LayoutTests.{unsigned, own-stays, compared-unsigned, equal-numbers}
use Rattle.c_trees.specs.Blocks.{is_end}
use Rattle.c_trees.proofs.Lists.{end-is}
use Rattle.c_loops.specs.Results.{Known, Exactly, NotZero, Anything, Test, Equal, Unequal, Other, opposite}
use Rattle.c_loops.specs.Results.{where_holds, small, constant_of, is_local, comparing, test_of, if_known, both_parts}
use Rattle.c_loops.specs.Results.{is_constant, part_gives, gives_back, gives_each_back}
use Rattle.c_loops.proofs.Locals.{type-is}

-- both of two tests
pub both-true : (a b : Bool) → (a && b) ≡ true → (a ≡ true) × (b ≡ true)
both-true true true e = (refl, refl)
both-true true false e = absurd cc
both-true false b e = absurd cc

-- ---- expressions

-- a constant word
pub constant-is : (e : CExpr) (k : ℕ) → constant_of e ≡ Some k → (e ≡ number k) × (k < 2 ^ 32)
constant-is (Const t z) k h = at (same_type t word) refl h
  where
    low : (n : ℕ) (b : Bool) → nat_lt n (2 ^ 32) ≡ b → cond b (Some n) None ≡ Some k
        → (pos n ≡ pos k) × (k < 2 ^ 32)
    low n true e h =
        let lt : n < 2 ^ 32 = grind (arith, nat_tests) in
        let same : n ≡ k = cc in
        (ap (λ (n : ℕ). pos n) same, subst (λ (n : ℕ). n < 2 ^ 32) same lt)
    low n false e h = absurd cc

    within : (z : ℤ) → small z ≡ Some k → (z ≡ pos k) × (k < 2 ^ 32)
    within (pos n) h = low n (nat_lt n (2 ^ 32)) refl h
    within (negsuc n) h = absurd cc

    at : (b : Bool) → same_type t word ≡ b → cond b (small z) None ≡ Some k → (Const t z ≡ number k) × (k < 2 ^ 32)
    at true s h =
        let w = within z h in
        (ap (λ (t : CType). Const t z) (type-is t word s) ∙ ap (λ (z : ℤ). Const word z) w.0, w.1)
    at false s h = absurd cc
constant-is e k h = absurd cc

-- a local
pub local-is : (i : ℕ) (e : CExpr) → is_local i e ≡ true → e ≡ Local word i
local-is i (Local t k) h =
    let h' = both-true (same_type t word) (nat_eq k i) h in
    let same = same-number (nat_eq k i) refl h'.1 in
    ap (λ (t : CType). Local t k) (type-is t word h'.0) ∙ ap (λ (k : ℕ). Local word k) same
  where
    same-number : (b : Bool) → nat_eq k i ≡ b → b ≡ true → k ≡ i
    same-number true e h = grind (arith, nat_tests)
    same-number false e h = absurd cc
local-is i e h = absurd cc

-- ---- what is known

-- a number may be such a result
abbrev pub allows : Known → ℕ → Bool
allows (Exactly k) r = k == r
allows NotZero r = not (r == 0)
allows Anything r = true

-- a test holds of a result
abbrev pub passed : Test → ℕ → Bool
passed (Equal j) r = nat_eq r j
passed (Unequal j) r = not (nat_eq r j)
passed Other r = true

-- so what is known after it does
pub holds-known : (r : ℕ) (v : Known) (t : Test) (f : Known → Bool) → allows v r ≡ true → passed t r ≡ true
    → if_known (where_holds v t) f ≡ true → (w : Known) × (allows w r ≡ true) × (f w ≡ true)
holds-known r (Exactly k) (Equal j) f a p h = at (nat_eq k j) refl h
  where
    at : (b : Bool) → nat_eq k j ≡ b → if_known (cond b (Some (Exactly k)) None) f ≡ true
        → (w : Known) × (allows w r ≡ true) × (f w ≡ true)
    at true e h = (Exactly k, a, h)
    at false e h = absurd (grind (arith, nat_tests))
holds-known r (Exactly k) (Unequal j) f a p h = at (nat_eq k j) refl h
  where
    at : (b : Bool) → nat_eq k j ≡ b → if_known (cond b None (Some (Exactly k))) f ≡ true
        → (w : Known) × (allows w r ≡ true) × (f w ≡ true)
    at true e h = absurd (grind (arith, nat_tests))
    at false e h = (Exactly k, a, h)
holds-known r (Exactly k) Other f a p h = (Exactly k, a, h)
holds-known r NotZero (Equal j) f a p h = at (nat_eq j 0) refl h
  where
    at : (b : Bool) → nat_eq j 0 ≡ b → if_known (cond b None (Some (Exactly j))) f ≡ true
        → (w : Known) × (allows w r ≡ true) × (f w ≡ true)
    at true e h = absurd (grind (arith, nat_tests))
    at false e h = (Exactly j, grind (arith, nat_tests), h)
holds-known r NotZero (Unequal j) f a p h = (NotZero, a, h)
holds-known r NotZero Other f a p h = (NotZero, a, h)
holds-known r Anything (Equal j) f a p h = (Exactly j, grind (arith, nat_tests), h)
holds-known r Anything (Unequal j) f a p h = (cond (nat_eq j 0) NotZero Anything, at (nat_eq j 0) refl, h)
  where
    at : (b : Bool) → nat_eq j 0 ≡ b → allows (cond b NotZero Anything) r ≡ true
    at true e = grind (arith, nat_tests)
    at false e = refl
holds-known r Anything Other f a p h = (Anything, refl, h)

-- ---- tests

-- the expression tells whether
abbrev pub Says : Width → Store → Locals → CExpr → Bool → Type 0
Says int s l e b = (x : CValue) × (meaning int s l e ≡ Gives x) × (is_true x.value ≡ b)

-- the expression tells whether the test holds of a result
abbrev pub MeansTest : Width → Store → Locals → ℕ → CExpr → Test → Type 0
MeansTest int s l r e (Equal j) = Says int s l e (nat_eq r j)
MeansTest int s l r e (Unequal j) = Says int s l e (not (nat_eq r j))
MeansTest int s l r e Other = Unit {0}

pub not-not : (b : Bool) → not (not b) ≡ b
not-not true = refl
not-not false = refl

module _ (int : Width) (s : Store) (l : Locals) (r : ℕ) (low : r < 2 ^ 32) (there : l word 4 ≡ Some (pos r)) where
  compare-means : (op : Comparison) (a b : CExpr) (j : ℕ) → a ≡ Local word 4 → b ≡ number j → j < 2 ^ 32
      → meaning int s l (Compare op a b) ≡ truth int (passes op (pos r) (pos j))
  unfolding meaning
  compare-means op a b j ea eb small =
      ap (λ (a : CExpr). meaning int s l (Compare op a b)) ea
      ∙ ap (λ (b : CExpr). meaning int s l (Compare op (Local word 4) b)) eb
      ∙ ap (λ (o : Option ℤ). with_meaning (read_as word o)
      (λ x. with_meaning (converted word (pos j)) (compared int op x))) there
      ∙ ap (λ (m : Meaning). with_meaning m (compared int op (unsigned W32 r))) (own-stays W32 j small)
      ∙ compared-unsigned int W32 op r j low small

  truth-says : (e : CExpr) (b c : Bool) → meaning int s l e ≡ truth int b → b ≡ c → Says int s l e c
  truth-says e b c h is = (record { type = Signed int; value = one_if b }, h, truth-stays b ∙ is)

  compare-tests : (op : Comparison) (a b : CExpr) (j : ℕ) → a ≡ Local word 4 → b ≡ number j → j < 2 ^ 32
      → MeansTest int s l r (Compare op a b) (comparing (Some j) op)
  compare-tests IsEqual a b j ea eb small =
      truth-says (Compare IsEqual a b) (passes IsEqual (pos r) (pos j)) (nat_eq r j)
      (compare-means IsEqual a b j ea eb small) (equal-numbers r j)
  compare-tests IsUnequal a b j ea eb small =
      truth-says (Compare IsUnequal a b) (passes IsUnequal (pos r) (pos j)) (not (nat_eq r j))
      (compare-means IsUnequal a b j ea eb small) (ap not (equal-numbers r j))
  compare-tests IsBelow a b j ea eb small = tt
  compare-tests IsAtMost a b j ea eb small = tt
  compare-tests IsAbove a b j ea eb small = tt
  compare-tests IsAtLeast a b j ea eb small = tt

  bang-says : (e : CExpr) (b c : Bool) → Says int s l e b → not b ≡ c → Says int s l (Bang e) c
  unfolding meaning
  bang-says e b c h is =
      truth-says (Bang e) (not (is_true h.0.value)) c
      (ap (λ (m : Meaning). with_meaning m (λ x. truth int (not (is_true x.value)))) h.1) (ap not h.2 ∙ is)

  bang-tests : (e : CExpr) (t : Test) → MeansTest int s l r e t → MeansTest int s l r (Bang e) (opposite t)
  bang-tests e (Equal j) h = bang-says e (nat_eq r j) (not (nat_eq r j)) h refl
  bang-tests e (Unequal j) h = bang-says e (not (nat_eq r j)) (nat_eq r j) h (not-not (nat_eq r j))
  bang-tests e Other h = tt

  -- where local 4 is the result
  pub test-means : (e : CExpr) → MeansTest int s l r e (test_of e)
  test-means (Bang e) = bang-tests e (test_of e) (test-means e)
  test-means (Compare op a b) = at (is_local 4 a) refl
    where
      by : (o : Option ℕ) → constant_of b ≡ o → a ≡ Local word 4
          → MeansTest int s l r (Compare op a b) (comparing o op)
      by None e ea = tt
      by (Some j) e ea = let k = constant-is b j e in compare-tests op a b j ea k.0 k.1

      at : (c : Bool) → is_local 4 a ≡ c
          → MeansTest int s l r (Compare op a b) (cond c (comparing (constant_of b) op) Other)
      at true h = by (constant_of b) refl (local-is 4 a h)
      at false h = tt
  test-means e = tt

  -- ---- statements

  -- one part, and what comes after it
  part-back : (c : Calls) (k : ℕ) (a : Block) (empty : Bool) (inside after : Known → Bool)
      (go : Store → Locals → Outcome) → is_end a ≡ empty
      → ((w : Known) → allows w r ≡ true → inside w ≡ true → outcome int c k a s l ≡ Returns s (unsigned W32 r))
      → ((w : Known) → allows w r ≡ true → after w ≡ true → go s l ≡ Returns s (unsigned W32 r)) → (w : Known)
      → allows w r ≡ true → part_gives empty inside after w ≡ true
      → and_on (outcome int c k a s l) go ≡ Returns s (unsigned W32 r)
  unfolding outcome
  part-back c k a true inside after go is part next w al h =
      ap (λ (a : Block). and_on (outcome int c k a s l) go) (end-is a is) ∙ next w al h
  part-back c k a false inside after go is part next w al h = ap (λ (o : Outcome). and_on o go) (part w al h)

  module _ (a b : Outcome) (go : Store → Locals → Outcome) (f g : Known → Bool)
      (left : (w : Known) → allows w r ≡ true → f w ≡ true → and_on a go ≡ Returns s (unsigned W32 r))
      (right : (w : Known) → allows w r ≡ true → g w ≡ true → and_on b go ≡ Returns s (unsigned W32 r)) where
    either-back : (v : Known) (t u : Test) (q : Bool) → allows v r ≡ true → passed t r ≡ q → passed u r ≡ not q
        → if_known (where_holds v t) f ≡ true → if_known (where_holds v u) g ≡ true
        → and_on (cond q a b) go ≡ Returns s (unsigned W32 r)
    either-back v t u true al pt pu ht hu = let w = holds-known r v t f al pt ht in left w.0 w.1 w.2
    either-back v t u false al pt pu ht hu = let w = holds-known r v u g al pu hu in right w.0 w.1 w.2

    parts-back : (e : CExpr) (v : Known) (t : Test) → allows v r ≡ true → MeansTest int s l r e t
        → both_parts t v f g ≡ true
        → with_value (meaning int s l e) (λ x. and_on (cond (is_true x.value) a b) go) ≡ Returns s (unsigned W32 r)
    parts-back e v (Equal j) al (x, means, tells) h =
        let h' = both-true (if_known (where_holds v (Equal j)) f) (if_known (where_holds v (Unequal j)) g) h in
        ap (λ (m : Meaning). with_value m (λ x. and_on (cond (is_true x.value) a b) go)) means
        ∙ ap (λ (q : Bool). and_on (cond q a b) go) tells
        ∙ either-back v (Equal j) (Unequal j) (nat_eq r j) al refl refl h'.0 h'.1
    parts-back e v (Unequal j) al (x, means, tells) h =
        let h' = both-true (if_known (where_holds v (Unequal j)) f) (if_known (where_holds v (Equal j)) g) h in
        ap (λ (m : Meaning). with_value m (λ x. and_on (cond (is_true x.value) a b) go)) means
        ∙ ap (λ (q : Bool). and_on (cond q a b) go) tells
        ∙ either-back v (Unequal j) (Equal j) (not (nat_eq r j)) al refl (sym (not-not (nat_eq r j))) h'.0 h'.1
    parts-back e v Other al m h = absurd cc

  -- what is returned
  return-means : (e : CExpr) (v : Known) → allows v r ≡ true → (is_local 4 e || is_constant (constant_of e) v) ≡ true
      → meaning int s l e ≡ gives word (pos r)
  unfolding meaning
  return-means e v al h = at (is_local 4 e) refl h
    where
      same : (k j : ℕ) → nat_eq k j ≡ true → nat_eq j r ≡ true → k ≡ r
      same k j p q = grind (arith, nat_tests)

      by : (o : Option ℕ) (v : Known) → allows v r ≡ true → constant_of e ≡ o → is_constant o v ≡ true
          → meaning int s l e ≡ gives word (pos r)
      by (Some k) (Exactly j) al c h =
          let is = constant-is e k c in
          let equal = same k j h al in
          ap (λ (e : CExpr). meaning int s l e) is.0 ∙ own-stays W32 k is.1
          ∙ ap (λ (k : ℕ). gives word (pos k)) equal
      by (Some k) NotZero al c h = absurd cc
      by (Some k) Anything al c h = absurd cc
      by None v al c h = absurd cc

      at : (b : Bool) → is_local 4 e ≡ b → (b || is_constant (constant_of e) v) ≡ true
          → meaning int s l e ≡ gives word (pos r)
      at true is h = ap (λ (e : CExpr). meaning int s l e) (local-is 4 e is) ∙ ap (read_as word) there
      at false is h = by (constant_of e) v al refl h

  pub given-back : (c : Calls) (k : ℕ) (a : Block) (v : Known) → allows v r ≡ true → gives_back a v ≡ true
      → outcome int c k a s l ≡ Returns s (unsigned W32 r)
  unfolding gives_back outcome
  given-back c k (If e a b rest) v al h =
      parts-back (outcome int c k a s l) (outcome int c k b s l) (λ v m. outcome int c k rest v m)
      (part_gives (is_end a) (gives_back a) (gives_back rest)) (part_gives (is_end b) (gives_back b) (gives_back rest))
      (part-back c k a (is_end a) (gives_back a) (gives_back rest) (λ v m. outcome int c k rest v m) refl
      (λ w al h. given-back c k a w al h) (λ w al h. given-back c k rest w al h))
      (part-back c k b (is_end b) (gives_back b) (gives_back rest) (λ v m. outcome int c k rest v m) refl
      (λ w al h. given-back c k b w al h) (λ w al h. given-back c k rest w al h)) e v (test_of e) al (test-means e) h
  given-back c k (Return e) v al h =
      ap (λ (m : Meaning). with_value m (λ x. Returns s x)) (return-means e v al h)
  given-back c k a v al h = absurd cc

-- one of these may be the result
abbrev pub Among : List Known → ℕ → Type 0
Among results r = list_any (λ v. allows v r) results ≡ true

-- statements that give back each of these, where that is the result
pub each-back : (int : Width) (c : Calls) (k : ℕ) (s : Store) (l : Locals) (r : ℕ) → r < 2 ^ 32
    → l word 4 ≡ Some (pos r) → (rest : Block) (results : List Known) → Among results r
    → gives_each_back results rest ≡ true → outcome int c k rest s l ≡ Returns s (unsigned W32 r)
each-back int c k s l r low there rest [] among h = absurd cc
each-back int c k s l r low there rest (v ∷ results) among h =
    let h' = both-true (gives_back rest v) (list_all (gives_back rest) results) h in
    at (allows v r) refl among h'.0 (λ among. each-back int c k s l r low there rest results among h'.1)
  where
    at : (b : Bool) → allows v r ≡ b → (b || list_any (λ v. allows v r) results) ≡ true → gives_back rest v ≡ true
        → (Among results r → outcome int c k rest s l ≡ Returns s (unsigned W32 r))
        → outcome int c k rest s l ≡ Returns s (unsigned W32 r)
    at true al among h later = given-back int s l r low there c k rest v al h
    at false al among h later = later among
