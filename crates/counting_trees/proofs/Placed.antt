-- The states of a chart text in which counters count are those without counting, with what counts before their entry
-- actions and the inner list of the chart.
use Rattle.std.proofs.Common.{◌≡◌, ℕ, suc, ◌+◌, List, [], ◌∷◌, ◌++◌, map, length, Option, Some}
use Rattle.std.proofs.Common.{refl, sym, ap, ap₂, ◌∙◌, arith, length-append}
use Rattle.chart_tree.specs.Trees.{Trans, State, StateOf, States, NoState, MoreStates}
use Rattle.chart_places.specs.Placed.{Placed, is_any, placed_from, placed_below, owned_by, owned_from}
use Rattle.counting_trees.specs.Counters.{Counter}
use Rattle.counting_trees.specs.Counting.{own, with_counting, size, size_below, counting_state, counting_below}

-- a state with these counters, and transitions before its inner list
abbrev pub counted : List Counter → List Trans → Placed → Placed
counted own first x = record {
  parent = x.parent;
  parts = with_counting own first x.parts;
  has_children = x.has_children;
}

-- states, the first of which has number n, each with its counters, and the first with transitions before its inner list
abbrev pub counted_all : List (List Counter) → ℕ → List Trans → List Placed → List Placed
counted_all ks n first [] = []
counted_all ks n first (x ∷ xs) = counted (own ks n) first x ∷ counted_all ks (suc n) [] xs

module _ (ks : List (List Counter)) where
  counted-append : (n : ℕ) (xs ys : List Placed)
      → counted_all ks n [] (xs ++ ys) ≡ counted_all ks n [] xs ++ counted_all ks (n + length xs) [] ys
  counted-append n [] ys = let e : n ≡ n + 0 = omega arith in ap (λ m. counted_all ks m [] ys) e
  counted-append n (x ∷ xs) ys =
      let e : suc n + length xs ≡ n + suc (length xs) = omega arith in
      ap (λ l. counted (own ks n) [] x ∷ l)
      (counted-append (suc n) xs ys ∙ ap (λ m. counted_all ks (suc n) [] xs ++ counted_all ks m [] ys) e)

  pub counted-length : (n : ℕ) (first : List Trans) (xs : List Placed) → length (counted_all ks n first xs) ≡ length xs
  counted-length n first [] = refl
  counted-length n first (x ∷ xs) = ap suc (counted-length (suc n) [] xs)

  pub counted-map : {A : Type 0} (f : Placed → A)
      → ((r : List Counter) (first : List Trans) (x : Placed) → f (counted r first x) ≡ f x)
      → (n : ℕ) (first : List Trans) (xs : List Placed) → map f (counted_all ks n first xs) ≡ map f xs
  counted-map f h n first [] = refl
  counted-map f h n first (x ∷ xs) = ap₂ (λ y ys. y ∷ ys) (h (own ks n) first x) (counted-map f h (suc n) [] xs)

  pub counted-owned : (m n : ℕ) (first : List Trans) (xs : List Placed)
      → owned_from m (counted_all ks n first xs) ≡ owned_from m xs
  counted-owned m n first [] = refl
  counted-owned m n first (x ∷ xs) =
      ap (λ l. owned_by m x.parts.junctions ++ l) (counted-owned (suc m) (suc n) [] xs)

  -- ---- of a state

  any_same : (n : ℕ) (xs : States) → is_any (counting_below ks n xs) ≡ is_any xs
  any_same n NoState = refl
  any_same n (MoreStates x rest) = refl

  mutual
    sized : (parent : Option ℕ) (n : ℕ) (x : State) → size x ≡ length (placed_from parent n x)
    sized parent n (StateOf p below) = ap suc (sized_below n (suc n) below)

    sized_below : (s n : ℕ) (xs : States) → size_below xs ≡ length (placed_below s n xs)
    sized_below s n NoState = refl
    sized_below s n (MoreStates x rest) =
        let l = placed_from (Some s) n x in
        ap₂ (λ a b. a + b) (sized (Some s) n x) (sized_below s (n + length l) rest)
        ∙ sym (length-append l (placed_below s (n + length l) rest))

  mutual
    pub state_placed : (parent : Option ℕ) (n : ℕ) (first : List Trans) (x : State)
        → placed_from parent n (counting_state ks n first x) ≡ counted_all ks n first (placed_from parent n x)
    state_placed parent n first (StateOf p below) =
        ap₂ (λ y ys. y ∷ ys) (λ i. record {
          parent = parent;
          parts = with_counting (own ks n) first p;
          has_children = any_same (suc n) below i;
        }) (states_placed n (suc n) below)

    states_placed : (s n : ℕ) (xs : States)
        → placed_below s n (counting_below ks n xs) ≡ counted_all ks n [] (placed_below s n xs)
    states_placed s n NoState = refl
    states_placed s n (MoreStates x rest) =
        let l = placed_from (Some s) n x in
        let here = state_placed (Some s) n [] x in
        ap₂ (λ a b. a ++ b) here
        (ap (λ k. placed_below s (n + k) (counting_below ks (n + size x) rest))
        (ap length here ∙ counted-length n [] l)
        ∙ ap (λ k. placed_below s (n + length l) (counting_below ks (n + k) rest)) (sized (Some s) n x)
        ∙ states_placed s (n + length l) rest)
        ∙ sym (counted-append n l (placed_below s (n + length l) rest))
