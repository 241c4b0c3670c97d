-- Sums over numbers as sums over a list, and bounds of sums over lists.
use Rattle.std.proofs.Common.{◌≡◌, ℕ, zero, suc, ◌+◌, ◌*◌, ◌≤◌, List, [], ◌∷◌, length, take, refl, ap, ◌∙◌, arith}
use Rattle.std.specs.Prelude.{slice_index_or, sum_by}
use Rattle.std.proofs.lemmas.List.{take_all}
use Rattle.std.proofs.lemmas.List.Sums.{sum_by-cons, sum_by_more}
use Rattle.chart_code.specs.Orders.{sum_to}

module _ {A : Type 0} (f : A → ℕ) (d : A) (xs : List A) where
  -- the sum over the first numbers is that over the first items
  sum_taken : (n : ℕ) → n ≤ length xs → sum_to (λ i. f (slice_index_or xs i d)) n ≡ sum_by f (take n xs)
  unfolding sum_to
  sum_taken zero le = refl
  sum_taken (suc n) le =
      let e : n + 1 ≡ suc n = omega arith in
      omega (arith, sum_taken n (omega arith), sum_by_more f xs n d le, ap (λ k. sum_by f (take k xs)) e)

  -- the sum over all numbers of a list is that over the list
  pub sum_listed : (n : ℕ) → length xs ≡ n → sum_to (λ i. f (slice_index_or xs i d)) n ≡ sum_by f xs
  sum_listed n e =
      let whole : take n xs ≡ xs = take_all n xs (omega arith) in
      sum_taken n (omega arith) ∙ ap (sum_by f) whole

-- what is at most four times as much each is so in sum
pub sum_by_fourfold : {A : Type 0} (f h : A → ℕ) → ((x : A) → h x ≤ 4 * f x) → (xs : List A)
    → sum_by h xs ≤ 4 * sum_by f xs
sum_by_fourfold f h le [] = omega arith
sum_by_fourfold f h le (x ∷ xs) =
    omega (arith, le x, sum_by-cons f x xs, sum_by-cons h x xs, sum_by_fourfold f h le xs)

-- what is at most one number and twice another one each is so in sum
pub sum_by_twice : {A : Type 0} (f g h : A → ℕ) → ((x : A) → h x ≤ f x + 2 * g x) → (xs : List A)
    → sum_by h xs ≤ sum_by f xs + 2 * sum_by g xs
sum_by_twice f g h le [] = omega arith
sum_by_twice f g h le (x ∷ xs) =
    omega (
      arith,
      le x,
      sum_by-cons f x xs,
      sum_by-cons g x xs,
      sum_by-cons h x xs,
      sum_by_twice f g h le xs,
    )
