-- Sums over lists: what stands in a list is within the sum over it.
use Rattle.std.proofs.Common.{◌≡◌, ℕ, zero, suc, ◌+◌, ◌<◌, ◌≤◌, Bool, true, false, List, [], ◌∷◌, cond, Some}
use Rattle.std.proofs.Common.{ap, ◌∙◌, arith, ⊎_elim, subst}
use Rattle.std.specs.Prelude.{◌==◌, slice_index_or}
use Rattle.std.specs.List.{sum_by, filter, range_with_len}
use Rattle.std.specs.Option.{option_map_or}
use Rattle.std.proofs.lemmas.Bool.{cases_lt}
use Rattle.std.proofs.lemmas.Bool.Decides.{nat_tests}
use Rattle.std.proofs.lemmas.List.Sums.{sum_by-cons}
use Rattle.active_config.specs.Tree.{Tree, IsTree, state_count, parent_of, is_child, children_below, children_of}
use Rattle.checked_chart.proofs.Trees.{child_is}

-- ---- sums over lists

module _ {A : Type 0} (f : A → ℕ) where
  -- an item that is looked up is within the sum, where nothing is looked up as an item that counts nothing
  pub at_most_sum : (xs : List A) (i : ℕ) (d : A) → f d ≡ 0 → f (slice_index_or xs i d) ≤ sum_by f xs
  at_most_sum [] i d none = omega (arith, none)
  at_most_sum (x ∷ xs) zero d none = omega (arith, sum_by-cons f x xs)
  at_most_sum (x ∷ xs) (suc i) d none = omega (arith, sum_by-cons f x xs, at_most_sum xs i d none)

-- ---- numbers of a range that pass a test

module _ (f : ℕ → ℕ) where
  -- one item more makes no sum less
  kept_more : (b : Bool) (a : ℕ) (xs : List ℕ) → sum_by f xs ≤ sum_by f (cond b (a ∷ xs) xs)
  kept_more true a xs = omega (arith, sum_by-cons f a xs)
  kept_more false a xs = omega arith

  -- and it is within the sum
  kept_here : (b : Bool) (a : ℕ) (xs : List ℕ) → b ≡ true → f a ≤ sum_by f (cond b (a ∷ xs) xs)
  kept_here true a xs h = omega (arith, sum_by-cons f a xs)
  kept_here false a xs h = absurd cc

  -- a number that passes the test is within the sum of those that do
  kept_within : (p : ℕ → Bool) (n a x : ℕ) → a ≤ x → x < a + n → p x ≡ true
      → f x ≤ sum_by f (filter p (range_with_len a n))
  kept_within p zero a x low high passes = absurd (omega arith)
  kept_within p (suc n) a x low high passes =
      let rest = filter p (range_with_len (a + 1) n) in
      ⊎_elim
      (λ less. omega (arith, kept_more (p a) a rest, kept_within p n (a + 1) x (omega arith) (omega arith) passes))
      (λ le. let same : x ≡ a = omega arith in
      omega (arith, ap f same, kept_here (p a) a rest (subst (λ y. p y ≡ true) same passes)))
      (cases_lt a x)

-- ---- states

module _ (t : Tree) (tree : IsTree t) (f : ℕ → ℕ) where
  -- a child is within the sum over the children
  pub child_at_most : (s x : ℕ) → parent_of t x ≡ Some s → f x ≤ sum_by f (children_of t s)
  unfolding children_of children_below is_child
  child_at_most s x up =
      let child = child_is t tree s x up in
      let self : (s == s) ≡ true = grind (arith, nat_tests) in
      let child_passes : is_child t s x ≡ true = ap (λ o. option_map_or (λ p. p == s) o false) up ∙ self in
      kept_within f (is_child t s) (state_count t) 0 x (omega arith) (omega (arith, child.within)) child_passes
