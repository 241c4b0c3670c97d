-- Loops that print each item of a list, or ask of each.
use Rattle.std.proofs.Common.{◌≡◌, ℕ, ◌+◌, ◌<◌, ◌≤◌, Bool, true, false, ◌||◌, List, [], ◌∷◌, ◌++◌, length, drop, map}
use Rattle.std.proofs.Common.{get_or, sym, ap, ◌∙◌, append_assoc}
use Rattle.std.specs.List.{list_any}
use Rattle.std.proofs.lemmas.List.{at_drop_more, at_drop_all, append-nil}

-- the items to come are one and those after it
pub to_come : {X Y : Type 0} (F : List X → Y) (xs : List X) (i : ℕ) (x : X) → i < length xs → x ≡ get_or xs i x
    → F (drop i xs) ≡ F (x ∷ drop (i + 1) xs)
to_come F xs i x within is =
    at_drop_more F xs i x within ∙ ap (λ y. F (y ∷ drop (i + 1) xs)) (sym is)

-- ---- printing

-- the first part is printed, and what was printed with what is to come stays the same
pub more_printed : (before first rest text now whole : List ℕ)
    → text ≡ first ++ rest → now ≡ before ++ first → before ++ text ≡ whole → now ++ rest ≡ whole
more_printed before first rest text now whole parts printed so_far =
    ap (λ (t : List ℕ). t ++ rest) printed ∙ append_assoc before first rest
    ∙ ap (λ (t : List ℕ). before ++ t) (sym parts) ∙ so_far

-- where nothing is to come, all is printed
pub none_to_come : (now text whole : List ℕ) → text ≡ [] → now ++ text ≡ whole → now ≡ whole
none_to_come now text whole none so_far = sym (append-nil now) ∙ ap (λ (t : List ℕ). now ++ t) (sym none) ∙ so_far

-- after the last item nothing is to come
pub all_printed : {X : Type 0} (F : List X → List ℕ) (xs : List X) (i : ℕ) (now whole : List ℕ)
    → length xs ≤ i → F [] ≡ [] → now ++ F (drop i xs) ≡ whole → now ≡ whole
all_printed F xs i now whole past none so_far =
    none_to_come now (F (drop i xs)) whole (at_drop_all F xs i past ∙ none) so_far

-- ---- asking

-- a part that is true decides
decides : (first rest all whole : Bool) → all ≡ (first || rest) → first ≡ true → all ≡ whole → true ≡ whole
decides first rest all whole parts holds so_far = ap (λ (b : Bool). b || rest) (sym holds) ∙ sym parts ∙ so_far

-- a part that is false leaves the rest
passes : (first rest all whole : Bool) → all ≡ (first || rest) → first ≡ false → all ≡ whole → rest ≡ whole
passes first rest all whole parts fails so_far = ap (λ (b : Bool). b || rest) (sym fails) ∙ sym parts ∙ so_far

module _ {X : Type 0} (test : X → Bool) (xs : List X) (i : ℕ) where
  -- an item for which the test holds decides
  pub item_decides : (d : X) (answer whole : Bool) → i < length xs → answer ≡ test (get_or xs i d) → answer ≡ true
      → list_any test (drop i xs) ≡ whole → true ≡ whole
  item_decides d answer whole within asked holds so_far =
      decides (test (get_or xs i d)) (list_any test (drop (i + 1) xs)) (list_any test (drop i xs)) whole
      (at_drop_more (list_any test) xs i d within) (sym asked ∙ holds) so_far

  -- another one leaves those after it
  pub item_passes : (d : X) (answer whole : Bool) → i < length xs → answer ≡ test (get_or xs i d) → answer ≡ false
      → list_any test (drop i xs) ≡ whole → list_any test (drop (i + 1) xs) ≡ whole
  item_passes d answer whole within asked fails so_far =
      passes (test (get_or xs i d)) (list_any test (drop (i + 1) xs)) (list_any test (drop i xs)) whole
      (at_drop_more (list_any test) xs i d within) (sym asked ∙ fails) so_far

  -- after the last item there is none
  pub none_holds : (whole : Bool) → length xs ≤ i → list_any test (drop i xs) ≡ whole → false ≡ whole
  none_holds whole past so_far = sym (at_drop_all (list_any test) xs i past) ∙ so_far

module _ {X Y : Type 0} (test : Y → Bool) (view : X → Y) (xs : List X) (i : ℕ) where
  -- the same of items as contracts see them
  pub seen_decides : (x : X) (answer whole : Bool) → i < length xs → x ≡ get_or xs i x → answer ≡ test (view x)
      → answer ≡ true → list_any test (map view (drop i xs)) ≡ whole → true ≡ whole
  seen_decides x answer whole within is asked holds so_far =
      decides (test (view x)) (list_any test (map view (drop (i + 1) xs))) (list_any test (map view (drop i xs))) whole
      (to_come (λ (ys : List X). list_any test (map view ys)) xs i x within is) (sym asked ∙ holds) so_far

  pub seen_passes : (x : X) (answer whole : Bool) → i < length xs → x ≡ get_or xs i x → answer ≡ test (view x)
      → answer ≡ false → list_any test (map view (drop i xs)) ≡ whole
      → list_any test (map view (drop (i + 1) xs)) ≡ whole
  seen_passes x answer whole within is asked fails so_far =
      passes (test (view x)) (list_any test (map view (drop (i + 1) xs))) (list_any test (map view (drop i xs))) whole
      (to_come (λ (ys : List X). list_any test (map view ys)) xs i x within is) (sym asked ∙ fails) so_far

  pub none_seen : (whole : Bool) → length xs ≤ i → list_any test (map view (drop i xs)) ≡ whole → false ≡ whole
  none_seen whole past so_far = sym (at_drop_all (λ (ys : List X). list_any test (map view ys)) xs i past) ∙ so_far
