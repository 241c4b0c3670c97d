-- What is checked at each place of a list.
use Rattle.std.proofs.Common.{◌≡◌, ◌<◌, ◌≤◌, ℕ, ◌+◌, List, length, map, Some, refl, sym, ap, ◌∙◌, subst, arith}
use Rattle.std.proofs.Common.{get_or, below_more, option_map}
use Rattle.std.specs.Prelude.{slice_get}
use Rattle.std.proofs.lemmas.List.{length-map}
use Rattle.std.proofs.lemmas.Option.{slice_get_read, slice_get-map, slice_get_within}

module _ {A B : Type 0} (f : A → B) (P : ℕ → B → Type 0) (xs ys : List A) (n : ℕ) (same : xs ≡ ys)
    (each : (i : ℕ) → i < n → (y : B) → slice_get (map f ys) i ≡ Some y → P i y) where
  -- what holds of the first n and of the next one holds of one more
  pub one_more : (x : A) → n < length xs → x ≡ get_or xs n x → P n (f x)
      → (i : ℕ) → i < n + 1 → (y : B) → slice_get (map f ys) i ≡ Some y → P i y
  one_more x lt is next =
      let read : slice_get ys n ≡ Some x =
      subst (λ zs. slice_get zs n ≡ Some x) same (slice_get_read xs (length xs) n x refl lt is) in
      let there = slice_get-map f ys n ∙ ap (option_map f) read in
      below_more (λ i. (y : B) → slice_get (map f ys) i ≡ Some y → P i y) n each
      (λ y e. subst (P n) (same_some (f x) y (sym there ∙ e)) next)
    where
      same_some : {C : Type 0} (x y : C) → Some x ≡ Some y → x ≡ y
      same_some x y e = cc e

  -- where none is left it holds of all
  pub all_of_them : length xs ≤ n → (i : ℕ) (y : B) → slice_get (map f ys) i ≡ Some y → P i y
  all_of_them past i y e =
      let size = length-map ys f in
      let same_size = ap length same in
      let lt = slice_get_within (map f ys) i y e in
      each i (omega (arith, size, same_size, lt, past)) y e
