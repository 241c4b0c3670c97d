-- Facts of the items of a list and of their places.
use Rattle.std.proofs.Common.{◌≡◌, ℕ, zero, suc, ◌+◌, ◌<◌, List, [], ◌∷◌, ◌++◌, length, map, Some, refl, subst, arith}
use Rattle.std.specs.Prelude.{slice_get}
use Rattle.chart_code.specs.Orders.{sum_to, sum_between, ascending, descending, span}
use Rattle.chart_code.proofs.Sums.{between_none, between_more}
use Rattle.chart_code.proofs.Segments.{ascending_length}

-- P holds of each item with its place, the first of which is a
abbrev pub EachFrom : {A : Type 0} → (ℕ → A → Type 0) → ℕ → List A → Type 0
EachFrom P a [] = Unit {0}
EachFrom P a (x ∷ xs) = P a x × EachFrom P (suc a) xs

module _ {A : Type 0} (P : ℕ → A → Type 0) where
  -- an item
  pub from_get : (xs : List A) (a n : ℕ) (x : A) → EachFrom P a xs → slice_get xs n ≡ Some x → P (a + n) x
  from_get [] a n x h e = absurd cc
  from_get (y ∷ xs) a zero x h e =
      let q : y ≡ x = cc in let z : a ≡ a + 0 = omega arith in subst (λ i. P i x) z (subst (P a) q h.0)
  from_get (y ∷ xs) a (suc n) x h e =
      let z : suc a + n ≡ a + suc n = omega arith in subst (λ i. P i x) z (from_get xs (suc a) n x h.1 e)

  -- places by another number
  pub from_at : (a b : ℕ) (xs : List A) → a ≡ b → EachFrom P a xs → EachFrom P b xs
  from_at a b xs e h = subst (λ n. EachFrom P n xs) e h

  -- two lists
  pub from_append : (a : ℕ) (xs ys : List A) → EachFrom P a xs → EachFrom P (a + length xs) ys → EachFrom P a (xs ++ ys)
  from_append a [] ys h k = from_at (a + 0) a ys (omega arith) k
  from_append a (x ∷ xs) ys h k =
      (h.0, from_append (suc a) xs ys h.1 (from_at (a + length (x ∷ xs)) (suc a + length xs) ys (omega arith) k))

  -- what is made upwards
  pub from_ascending : (f : ℕ → List A) (size : ℕ → ℕ) → ((i : ℕ) → length (f i) ≡ size i) → (n a : ℕ)
      → ((i : ℕ) → i < n → EachFrom P (a + sum_to size i) (f i)) → EachFrom P a (ascending f n)
  unfolding ascending
  from_ascending f size sizes zero a h = tt
  from_ascending f size sizes (suc n) a h =
      from_append a (ascending f n) (f n) (from_ascending f size sizes n a (λ i lt. h i (omega arith)))
      (from_at (a + sum_to size n) (a + length (ascending f n)) (f n)
      (omega (arith, ascending_length f size sizes n)) (h n (omega arith)))

  -- what is made downwards
  pub from_descending : (f : ℕ → List A) (size : ℕ → ℕ) → ((i : ℕ) → length (f i) ≡ size i) → (n a : ℕ)
      → ((i : ℕ) → i < n → EachFrom P (a + sum_between size (suc i) n) (f i)) → EachFrom P a (descending f n)
  unfolding descending
  from_descending f size sizes zero a h = tt
  from_descending f size sizes (suc n) a h =
      from_append a (f n) (descending f n)
      (from_at (a + sum_between size (suc n) (suc n)) a (f n) (omega (arith, between_none size (suc n)))
      (h n (omega arith)))
      (from_descending f size sizes n (a + length (f n)) (λ i lt.
      from_at (a + sum_between size (suc i) (suc n)) (a + length (f n) + sum_between size (suc i) n) (f i)
      (omega (arith, sizes n, between_more size (suc i) n lt)) (h i (omega arith))))

  -- a span
  pub from_span : (f : ℕ → A) (s n a : ℕ) → ((k : ℕ) → k < n → P (a + k) (f (s + k))) → EachFrom P a (span f s n)
  unfolding span
  from_span f s zero a h = tt
  from_span f s (suc n) a h = (
    let x : a + 0 ≡ a = omega arith in
        let y : s + 0 ≡ s = omega arith in
        subst (λ i. P i (f s)) x (subst (λ i. P (a + 0) (f i)) y (h 0 (omega arith))),
    from_span f (suc s) n (suc a) (λ k lt.
        let x : a + suc k ≡ suc a + k = omega arith in
        let y : s + suc k ≡ suc s + k = omega arith in
        subst (λ i. P i (f (suc s + k))) x (subst (λ i. P (a + suc k) (f i)) y (h (suc k) (omega arith)))),
  )

  -- the items that g makes of a list
  pub from_map : {B : Type 0} (g : B → A) (xs : List B) (a : ℕ)
      → ((k : ℕ) (x : B) → slice_get xs k ≡ Some x → P (a + k) (g x)) → EachFrom P a (map g xs)
  from_map g [] a h = tt
  from_map g (x ∷ xs) a h = (
    let z : a + 0 ≡ a = omega arith in subst (λ i. P i (g x)) z (h 0 x refl),
    from_map g xs (suc a) (λ k y e.
        let z : a + suc k ≡ suc a + k = omega arith in subst (λ i. P i (g y)) z (h (suc k) y e)),
  )
