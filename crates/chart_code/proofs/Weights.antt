-- Sums over a list in which no number stands twice, as sums over all numbers that are in it.
use Rattle.std.proofs.Common.{◌≡◌, ℕ, zero, suc, ◌+◌, ◌<◌, ◌≤◌, Bool, true, false, List, [], ◌∷◌, length, refl, ap}
use Rattle.std.proofs.Common.{subst, arith}
use Rattle.std.specs.Prelude.{nat_eq, nat_lt, ◌||◌, if◌then◌else◌}
use Rattle.std.specs.List.{AllByRecursion}
use Rattle.std.proofs.lemmas.Bool.Decides.{nat_tests}
use Rattle.checked_chart.specs.Reached.{weight}
use Rattle.chart_code.specs.ReachedJunctions.{has, Distinct, sum_over}
use Rattle.chart_code.proofs.Members.{eq_is}

-- the weight of a number that is there
abbrev part : Bool → ℕ → ℕ
part b v = if b then v else 0

-- nothing is in an empty list
weight_none : (w : ℕ → ℕ) (n : ℕ) → weight (has []) w n ≡ 0
unfolding has
weight_none w zero = refl
weight_none w (suc n) = omega (arith, weight_none w n)

-- a new number adds its weight, where it is below n
weight_one : (w : ℕ → ℕ) (x : ℕ) (xs : List ℕ) (n : ℕ) → has xs x ≡ false
    → weight (has (x ∷ xs)) w n ≡ weight (has xs) w n + part (nat_lt x n) (w x)
unfolding has
weight_one w x xs zero h =
    let e : nat_lt x 0 ≡ false = grind (arith, nat_tests) in omega (arith, ap (λ b. part b (w x)) e)
weight_one w x xs (suc n) h = at (nat_eq x n) refl (weight_one w x xs n h)
  where
    at : (b : Bool) → nat_eq x n ≡ b → weight (has (x ∷ xs)) w n ≡ weight (has xs) w n + part (nat_lt x n) (w x)
        → weight (has (x ∷ xs)) w n + part (nat_eq x n || has xs n) (w n)
        ≡ (weight (has xs) w n + part (has xs n) (w n)) + part (nat_lt x (suc n)) (w x)
    at true e ih =
        let q : x ≡ n = eq_is x n e in
        let g : has xs n ≡ false = subst (λ y. has xs y ≡ false) q h in
        let l : nat_lt x (suc n) ≡ true = grind (arith, nat_tests) in
        let m : nat_lt x n ≡ false = grind (arith, nat_tests) in
        omega (
          arith,
          ih,
          ap w q,
          ap (λ b. part (b || has xs n) (w n)) e,
          ap (λ b. part b (w n)) g,
          ap (λ b. part b (w x)) l,
          ap (λ b. part b (w x)) m,
        )
    at false e ih =
        let l : nat_lt x (suc n) ≡ nat_lt x n = grind (arith, nat_tests) in
        omega (arith, ih, ap (λ b. part (b || has xs n) (w n)) e, ap (λ b. part b (w x)) l)

-- a sum over a list is the weight of the numbers that are in it
pub sum_weight : (w : ℕ → ℕ) (xs : List ℕ) (n : ℕ) → Distinct xs → AllByRecursion (λ x. x < n) xs
    → sum_over w xs ≡ weight (has xs) w n
unfolding sum_over
sum_weight w [] n d b = omega (arith, weight_none w n)
sum_weight w (x ∷ xs) n d b =
    let l : nat_lt x n ≡ true = grind (arith, nat_tests, b.0) in
    omega (arith, weight_one w x xs n d.0, ap (λ y. part y (w x)) l, sum_weight w xs n d.1 b.1)

-- a part of the numbers has no more weight
pub weight_le : (p q : ℕ → Bool) (w : ℕ → ℕ) (n : ℕ) → ((j : ℕ) → p j ≡ true → q j ≡ true)
    → weight p w n ≤ weight q w n
weight_le p q w zero h = omega arith
weight_le p q w (suc n) h = at (p n) (q n) (h n) (weight_le p q w n h)
  where
    at : (a b : Bool) → (a ≡ true → b ≡ true) → weight p w n ≤ weight q w n
        → weight p w n + part a (w n) ≤ weight q w n + part b (w n)
    at false true k ih = omega arith
    at false false k ih = omega arith
    at true true k ih = omega arith
    at true false k ih = absurd (let e = k refl in cc)

-- there are no more than n numbers below n
weight_most : (p : ℕ → Bool) (n : ℕ) → weight p (λ j. 1) n ≤ n
weight_most p zero = omega arith
weight_most p (suc n) = at (p n) (weight_most p n)
  where
    at : (a : Bool) → weight p (λ j. 1) n ≤ n → weight p (λ j. 1) n + part a 1 ≤ suc n
    at true ih = omega arith
    at false ih = omega arith

-- a length is a sum
sum_ones : (xs : List ℕ) → sum_over (λ j. 1) xs ≡ length xs
unfolding sum_over
sum_ones [] = refl {a = 0}
sum_ones (x ∷ xs) = omega (arith, sum_ones xs)

-- there are at most n different numbers below n
pub at_most_all : (xs : List ℕ) (n : ℕ) → Distinct xs → AllByRecursion (λ x. x < n) xs → length xs ≤ n
at_most_all xs n d b = omega (arith, sum_ones xs, sum_weight (λ j. 1) xs n d b, weight_most (has xs) n)

-- a sum of numbers that are no less is no less
pub sum_over_le : (f g : ℕ → ℕ) (xs : List ℕ) → ((j : ℕ) → f j ≤ g j) → sum_over f xs ≤ sum_over g xs
unfolding sum_over
sum_over_le f g [] h = omega arith
sum_over_le f g (x ∷ xs) h = omega (arith, h x, sum_over_le f g xs h)
