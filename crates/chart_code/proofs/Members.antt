-- Numbers that are in a list, and lists in which none stands twice.
use Rattle.std.proofs.Common.{◌≡◌, ℕ, zero, suc, Bool, true, false, List, [], ◌∷◌, ◌++◌}
use Rattle.std.proofs.Common.{Some, refl, ap, ◌∙◌, subst, arith}
use Rattle.std.specs.Prelude.{slice_get, nat_eq, ◌||◌, if◌then◌else◌}
use Rattle.std.specs.List.{AllByRecursion}
use Rattle.std.proofs.lemmas.Bool.Decides.{nat_tests}
use Rattle.chart_code.specs.ReachedJunctions.{has, place_of, Distinct}

-- ---- tests

-- a number is itself
pub eq_same : (x : ℕ) → nat_eq x x ≡ true
eq_same x = grind (arith, nat_tests)

-- what passes the test is the same
pub eq_is : (x y : ℕ) → nat_eq x y ≡ true → x ≡ y
eq_is x y h = grind (arith, nat_tests)

-- the test goes both ways
eq_swaps : (x y : ℕ) → nat_eq x y ≡ false → nat_eq y x ≡ false
eq_swaps x y h = grind (arith, nat_tests)

-- one of two holds where the second one does
or_true : (a b : Bool) → b ≡ true → (a || b) ≡ true
or_true true b h = refl
or_true false b h = h

-- neither of two holds
or_false : (a b : Bool) → a ≡ false → b ≡ false → (a || b) ≡ false
or_false true b h k = cc
or_false false b h k = k

-- where neither holds the first one doesn't
first_false : (a b : Bool) → (a || b) ≡ false → a ≡ false
first_false true b h = cc
first_false false b h = refl

-- and neither does the second one
second_false : (a b : Bool) → (a || b) ≡ false → b ≡ false
second_false true b h = cc
second_false false b h = h

-- ---- what is in a list

-- what is in a list is in it with more after it
pub has_front : (xs ys : List ℕ) (j : ℕ) → has xs j ≡ true → has (xs ++ ys) j ≡ true
unfolding has
has_front [] ys j h = cc
has_front (x ∷ xs) ys j h = at (nat_eq x j) (has xs j) (has (xs ++ ys) j) h (has_front xs ys j)
  where
    at : (a b c : Bool) → (a || b) ≡ true → (b ≡ true → c ≡ true) → (a || c) ≡ true
    at true b c h k = refl
    at false b c h k = k h

-- what is appended is in the list
pub has_last : (xs : List ℕ) (j : ℕ) → has (xs ++ j ∷ []) j ≡ true
unfolding has
has_last [] j = ap (λ b. b || false) (eq_same j)
has_last (x ∷ xs) j = or_true (nat_eq x j) (has (xs ++ j ∷ []) j) (has_last xs j)

-- what isn't in a list isn't in it with another number after it
has_not : (xs : List ℕ) (j y : ℕ) → has xs y ≡ false → nat_eq j y ≡ false → has (xs ++ j ∷ []) y ≡ false
unfolding has
has_not [] j y h k = or_false (nat_eq j y) false k refl
has_not (x ∷ xs) j y h k =
    or_false (nat_eq x y) (has (xs ++ j ∷ []) y) (first_false (nat_eq x y) (has xs y) h)
    (has_not xs j y (second_false (nat_eq x y) (has xs y) h) k)

-- what stands at a place is in the list
pub has_at : (xs : List ℕ) (k j : ℕ) → slice_get xs k ≡ Some j → has xs j ≡ true
unfolding has
has_at [] k j e = absurd cc
has_at (x ∷ xs) zero j e =
    let q : x ≡ j = cc in ap (λ b. b || has xs j) (ap (λ y. nat_eq y j) q ∙ eq_same j)
has_at (x ∷ xs) (suc k) j e = or_true (nat_eq x j) (has xs j) (has_at xs k j e)

-- what is in a list stands at its place
pub place_get : (xs : List ℕ) (j : ℕ) → has xs j ≡ true → slice_get xs (place_of xs j) ≡ Some j
unfolding has place_of
place_get [] j h = cc
place_get (x ∷ xs) j h = at (nat_eq x j) refl h (place_get xs j)
  where
    at : (b : Bool) → nat_eq x j ≡ b → (b || has xs j) ≡ true
        → (has xs j ≡ true → slice_get xs (place_of xs j) ≡ Some j)
        → slice_get (x ∷ xs) (if b then 0 else suc (place_of xs j)) ≡ Some j
    at true e k ih = ap Some (eq_is x j e)
    at false e k ih = ih k

-- what all have, each that is in the list has
pub all_has : (P : ℕ → Type 0) (xs : List ℕ) (j : ℕ) → AllByRecursion P xs → has xs j ≡ true → P j
unfolding has
all_has P [] j a h = absurd cc
all_has P (x ∷ xs) j a h = at (nat_eq x j) refl h (all_has P xs j a.1)
  where
    at : (b : Bool) → nat_eq x j ≡ b → (b || has xs j) ≡ true → (has xs j ≡ true → P j) → P j
    at true e k ih = subst P (eq_is x j e) a.0
    at false e k ih = ih k

-- what all have and one more has, all have with it
pub all_more : (P : ℕ → Type 0) (xs : List ℕ) (j : ℕ) → AllByRecursion P xs → P j → AllByRecursion P (xs ++ j ∷ [])
all_more P [] j a h = (h, tt)
all_more P (x ∷ xs) j a h = (a.0, all_more P xs j a.1 h)

-- a number that isn't in the list makes no other stand twice
pub distinct_more : (xs : List ℕ) (j : ℕ) → Distinct xs → has xs j ≡ false → Distinct (xs ++ j ∷ [])
unfolding has
distinct_more [] j d h = (refl, tt)
distinct_more (x ∷ xs) j d h = (
  has_not xs j x d.0 (eq_swaps x j (first_false (nat_eq x j) (has xs j) h)),
  distinct_more xs j d.1 (second_false (nat_eq x j) (has xs j) h),
)

-- in a list in which none stands twice a number stands at its place
pub distinct_place : (xs : List ℕ) (k j : ℕ) → Distinct xs → slice_get xs k ≡ Some j → place_of xs j ≡ k
unfolding place_of
distinct_place [] k j d e = absurd cc
distinct_place (x ∷ xs) zero j d e =
    let q : x ≡ j = cc in
    let t : nat_eq x j ≡ true = subst (λ y. nat_eq x y ≡ true) q (eq_same x) in
    ap (λ b. if b then 0 else suc (place_of xs j)) t
distinct_place (x ∷ xs) (suc k) j d e = at (nat_eq x j) refl (distinct_place xs k j d.1 e)
  where
    at : (b : Bool) → nat_eq x j ≡ b → place_of xs j ≡ k → (if b then 0 else suc (place_of xs j)) ≡ suc k
    at true t ih = absurd (let h = has_at xs k j e in let q = eq_is x j t in
        let n = subst (λ y. has xs y ≡ false) q d.0 in cc)
    at false t ih = ap suc ih
