-- The part of the places that has the items.
use Rattle.std.proofs.Common.{◌≡◌, ℕ, ◌+◌, ◌-◌, ◌%◌, ◌<◌, ◌≤◌, ◌⊎◌, List, [], ◌∷◌, ◌++◌, length, get_or, Option, set}
use Rattle.std.proofs.Common.{ap, ◌∙◌, ap₂, inl, inr, mod-eq_of_lt, arith, length-append, length-drop, length-set}
use Rattle.std.proofs.Common.{length-take-le, get_or-drop, get_or-take}
use native.Mathlib.Nat.{mod-eq-sub-mod, mod-add-mod}
use Rattle.std.proofs.lemmas.List.{same_lists, drop_more, get_or_append_left, get_or-append_right}
use Rattle.std.proofs.lemmas.Bool.{cases_lt}
use Rattle.std.proofs.lemmas.Grind.{common_steps}
use Rattle.actions.specs.declared.expr.Value.{Value}
use Rattle.chart_net.specs.Rings.{Queue, window}

-- a number below 2 N wraps once at most
mod_wraps_once : (N j : ℕ) → j < N + N → ((j < N) × (j % N ≡ j)) ⊎ ((N ≤ j) × (j % N ≡ j - N))
mod_wraps_once N j below = elim (cases_lt j N) [
  | inl low ↦ inl (low, mod-eq_of_lt low)
  | inr high ↦ inr (high, mod-eq-sub-mod high ∙ mod-eq_of_lt (omega arith))
]

-- the place after another one is there
pub next_in_range : (N j : ℕ) → j < N + N → j % N < N
next_in_range N j below = grind (arith, mod_wraps_once N j)

module _ {A : Type 0} (N k n : ℕ) (xs : List A) (start_in_range : k < N) (len_fits : n ≤ N) (length_xs : length xs ≡ N)
  where
    -- there are n items
    pub length-window : length (window k n xs) ≡ n
    length-window = length-take-le n _
        (simp (length-append, length-drop) (omega (arith, length-take-le k xs (omega arith))))

    -- item i is the place (k + i) % N, which is before the end or past it
    get_or-window : (i : ℕ) (d : A) → i < n → get_or (window k n xs) i d ≡ get_or xs ((k + i) % N) d
    get_or-window i d in_range =
        let length_tail = length-drop k xs in
        get_or-take n _ i d in_range ∙ elim (mod_wraps_once N (k + i) (omega arith)) [
          | inl unwrapped ↦ get_or_append_left _ _ d i (omega arith) ∙ get_or-drop k xs i d ∙ ap (λ j. get_or xs j d)
              (omega arith)
          | inr wrapped ↦ get_or-append_right _ _ (N - k) i d (omega arith) (omega arith) ∙ get_or-take k xs _ d
              (omega arith) ∙ ap (λ j. get_or xs j d) (omega arith)
        ]

-- a second block, since these use the lemmas above at other windows
module _ {A : Type 0} (N k n : ℕ) (xs : List A) (start_in_range : k < N) (len_fits : n ≤ N) (length_xs : length xs ≡ N)
  where
    -- a write after the last item adds it at the end; the two lists are compared item by item
    pub window_after_push : (x : A) → n < N → window k (n + 1) (set xs ((k + n) % N) x) ≡ window k n xs ++ x ∷ []
    window_after_push x has_room =
        let ys = set xs ((k + n) % N) x in
        let length_ys = length-set xs ((k + n) % N) x ∙ length_xs in
        let length_old = length-window N k n xs start_in_range len_fits length_xs in
        let length_new = length-window N k (n + 1) ys start_in_range (omega arith) length_ys in
        let written_slot = mod_wraps_once N (k + n) (omega arith) in
        same_lists _ _ (grind (arith, common_steps)) (λ i d in_range. grind (
          arith,
          common_steps,
          mod_wraps_once N (k + i) (omega arith),
          get_or-window N k n xs start_in_range len_fits length_xs i d,
          get_or-window N k (n + 1) ys start_in_range (omega arith) length_ys i d,
        ))

    -- the items are the one at place k, then those from the next place on; the tails are compared item by item
    pub window_before_take : (x : A) → 0 < n → window k n xs ≡ get_or xs k x ∷ window ((k + 1) % N) (n - 1) xs
    window_before_take x nonempty =
        let next_place : (k + 1) % N < N = next_in_range N (k + 1) (omega arith) in
        let length_old = length-window N k n xs start_in_range len_fits length_xs in
        let length_new = length-window N ((k + 1) % N) (n - 1) xs next_place (omega arith) length_xs in
        let old_item = get_or-window N k n xs start_in_range len_fits length_xs in
        drop_more _ 0 x (omega arith) ∙ ap₂ ◌∷◌ (grind (arith, old_item 0 x, mod_wraps_once N k))
        (same_lists _ _ (simp length-drop (omega arith)) (λ i d in_range. grind (
          arith,
          length-drop 1 (window k n xs),
          get_or-drop 1 (window k n xs) i d,
          mod-add-mod (k + 1) N i,
          old_item (1 + i) d,
          get_or-window N _ (n - 1) xs next_place (omega arith) length_xs i d,
        )))

-- a queue by its parts
abbrev pub queue : List (Option Value) → ℕ → Queue
queue items cap = record { items = items; cap = cap }

-- queues of the same parts
pub same_queue : (a b : List (Option Value)) (m n : ℕ) → a ≡ b → m ≡ n → queue a m ≡ queue b n
same_queue a b m n items cap = ap (λ (x : List (Option Value)). queue x m) items ∙ ap (queue b) cap
