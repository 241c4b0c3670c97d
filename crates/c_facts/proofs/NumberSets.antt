-- Sets of numbers.
use Rattle.std.proofs.Common.{◌≡◌, nat_eq, ℕ, Bool, true, false, cond, List, [], ◌∷◌, refl, sym, ap, ◌∙◌, subst}
use Rattle.std.proofs.Common.{arith}
use Rattle.std.proofs.lemmas.Bool.Decides.{nat_tests}
use Rattle.c_facts.specs.Known.{is_in}
use Rattle.c_facts.specs.Facts.{agrees, kept, some_agrees, united, common, all_in}

-- numbers that pass the test are the same
pub same : (x z : ℕ) → nat_eq x z ≡ true → x ≡ z
same x z e = grind (arith, nat_tests)

-- the first one, or one of the others
in-either : (C : Type 0) (b : Bool) (x z : ℕ) (xs : List ℕ) → nat_eq x z ≡ b → is_in z (x ∷ xs) ≡ true
    → (x ≡ z → C) → (is_in z xs ≡ true → C) → C
in-either C true x z xs e h first other = first (same x z e)
in-either C false x z xs e h first other =
    other (sym (ap (λ (b : Bool). cond b true (is_in z xs)) e) ∙ h)

-- one of others is one of more
pub in-more : (x z : ℕ) (xs : List ℕ) → is_in z xs ≡ true → is_in z (x ∷ xs) ≡ true
in-more x z xs h = at (nat_eq x z)
  where
    at : (b : Bool) → cond b true (is_in z xs) ≡ true
    at true = refl
    at false = h

self-eq : (x : ℕ) → nat_eq x x ≡ true
self-eq x = grind (arith, nat_tests)

pub in-first : (x : ℕ) (xs : List ℕ) → is_in x (x ∷ xs) ≡ true
in-first x xs = ap (λ (b : Bool). cond b true (is_in x xs)) (self-eq x)

-- what agrees is kept
pub is-kept : (way : Bool) (c z : ℕ) (xs : List ℕ) → agrees way (nat_eq z c) ≡ true → is_in z xs ≡ true
    → is_in z (kept way c xs) ≡ true
is-kept way c z [] a h = h
is-kept way c z (x ∷ xs) a h =
    in-either (is_in z (kept way c (x ∷ xs)) ≡ true) (nat_eq x z) x z xs refl h
    (λ e. first x e) (λ i. at (agrees way (nat_eq x c)) (is-kept way c z xs a i))
  where
    at : (b : Bool) → is_in z (kept way c xs) ≡ true
        → is_in z (cond b (x ∷ kept way c xs) (kept way c xs)) ≡ true
    at true i = in-more x z (kept way c xs) i
    at false i = i

    first : (x : ℕ) → x ≡ z → is_in z (kept way c (x ∷ xs)) ≡ true
    first x e =
        subst (λ (x : ℕ). is_in z (kept way c (x ∷ xs)) ≡ true) (sym e)
        (ap (λ (b : Bool). is_in z (cond b (z ∷ kept way c xs) (kept way c xs))) a ∙ in-first z (kept way c xs))

-- where none agrees, none of them does
pub none-agrees : (way : Bool) (c z : ℕ) (xs : List ℕ) → some_agrees way c xs ≡ false → is_in z xs ≡ true
    → agrees way (nat_eq z c) ≡ false
none-agrees way c z [] n h = absurd cc
none-agrees way c z (x ∷ xs) n h =
    at (agrees way (nat_eq x c)) refl n (λ n i. none-agrees way c z xs n i)
  where
    at : (b : Bool) → agrees way (nat_eq x c) ≡ b → cond b true (some_agrees way c xs) ≡ false
        → (some_agrees way c xs ≡ false → is_in z xs ≡ true → agrees way (nat_eq z c) ≡ false)
        → agrees way (nat_eq z c) ≡ false
    at true e n rest = absurd cc
    at false e n rest =
        in-either (agrees way (nat_eq z c) ≡ false) (nat_eq x z) x z xs refl h
        (λ s. subst (λ (y : ℕ). agrees way (nat_eq y c) ≡ false) s e) (λ i. rest n i)

-- all of both
pub in-first-set : (z : ℕ) (xs ys : List ℕ) → is_in z xs ≡ true → is_in z (united xs ys) ≡ true
in-first-set z xs [] h = h
in-first-set z xs (y ∷ ys) h = at (is_in y xs) (in-first-set z xs ys h)
  where
    at : (b : Bool) → is_in z (united xs ys) ≡ true → is_in z (cond b (united xs ys) (y ∷ united xs ys)) ≡ true
    at true i = i
    at false i = in-more y z (united xs ys) i

pub in-second-set : (z : ℕ) (xs ys : List ℕ) → is_in z ys ≡ true → is_in z (united xs ys) ≡ true
in-second-set z xs [] h = absurd cc
in-second-set z xs (y ∷ ys) h =
    in-either (is_in z (united xs (y ∷ ys)) ≡ true) (nat_eq y z) y z ys refl h
    (λ e. subst (λ (z : ℕ). is_in z (united xs (y ∷ ys)) ≡ true) e (first (is_in y xs) refl))
    (λ i. at (is_in y xs) (in-second-set z xs ys i))
  where
    at : (b : Bool) → is_in z (united xs ys) ≡ true → is_in z (cond b (united xs ys) (y ∷ united xs ys)) ≡ true
    at true i = i
    at false i = in-more y z (united xs ys) i

    first : (b : Bool) → is_in y xs ≡ b → is_in y (cond b (united xs ys) (y ∷ united xs ys)) ≡ true
    first true e = in-first-set y xs ys e
    first false e = in-first y (united xs ys)

-- one of both is among those that are in both
pub in-common : (z : ℕ) (xs ys : List ℕ) → is_in z xs ≡ true → is_in z ys ≡ true → is_in z (common xs ys) ≡ true
in-common z [] ys h i = h
in-common z (x ∷ xs) ys h i =
    in-either (is_in z (common (x ∷ xs) ys) ≡ true) (nat_eq x z) x z xs refl h
    (λ e. subst (λ (x : ℕ). is_in z (common (x ∷ xs) ys) ≡ true) (sym e)
    (ap (λ (b : Bool). is_in z (cond b (z ∷ common xs ys) (common xs ys))) i ∙ in-first z (common xs ys)))
    (λ j. at (is_in x ys) (in-common z xs ys j i))
  where
    at : (b : Bool) → is_in z (common xs ys) ≡ true → is_in z (cond b (x ∷ common xs ys) (common xs ys)) ≡ true
    at true j = in-more x z (common xs ys) j
    at false j = j

-- what is one of the first ones is one of the second ones
pub in-all : (z : ℕ) (xs ys : List ℕ) → all_in xs ys ≡ true → is_in z xs ≡ true → is_in z ys ≡ true
in-all z [] ys a h = absurd cc
in-all z (x ∷ xs) ys a h = at (is_in x ys) refl a (λ a i. in-all z xs ys a i)
  where
    at : (b : Bool) → is_in x ys ≡ b → cond b (all_in xs ys) false ≡ true
        → (all_in xs ys ≡ true → is_in z xs ≡ true → is_in z ys ≡ true) → is_in z ys ≡ true
    at true e a rest =
        in-either (is_in z ys ≡ true) (nat_eq x z) x z xs refl h
        (λ s. subst (λ (y : ℕ). is_in y ys ≡ true) s e) (λ i. rest a i)
    at false e a rest = absurd cc
