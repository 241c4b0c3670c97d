-- Loops that ask of each item of a list.
use Rattle.std.proofs.Common.{◌≡◌, ℕ, ◌+◌, ◌<◌, ◌≤◌, Bool, true, false, ◌&&◌, ◌||◌, List, [], ◌∷◌, length, drop}
use Rattle.std.proofs.Common.{get_or, sym, ap, ◌∙◌}
use Rattle.std.proofs.lemmas.List.{at_drop_more, at_drop_all}

-- the items to come are one and those after it
pub to-come : {X Y : Type 0} (F : List X → Y) (xs : List X) (i : ℕ) (x : X) → i < length xs → x ≡ get_or xs i x
    → F (drop i xs) ≡ F (x ∷ drop (i + 1) xs)
to-come F xs i x within is =
    at_drop_more F xs i x within ∙ ap (λ y. F (y ∷ drop (i + 1) xs)) (sym is)

-- after the last item none is left
pub none-left : {X : Type 0} (F : List X → Bool) (xs : List X) (i : ℕ) (whole : Bool)
    → length xs ≤ i → F (drop i xs) ≡ whole → F [] ≡ whole
none-left F xs i whole past so_far = sym (at_drop_all F xs i past) ∙ so_far

-- one of which it holds decides whether it does of one
pub decides : (first rest all whole : Bool) → all ≡ (first || rest) → first ≡ true → all ≡ whole → true ≡ whole
decides first rest all whole parts holds so_far = ap (λ (b : Bool). b || rest) (sym holds) ∙ sym parts ∙ so_far

-- another one leaves the rest
pub passes : (first rest all whole : Bool) → all ≡ (first || rest) → first ≡ false → all ≡ whole → rest ≡ whole
passes first rest all whole parts fails so_far = ap (λ (b : Bool). b || rest) (sym fails) ∙ sym parts ∙ so_far

-- one of which it doesn't decides whether it does of all
pub refutes : (first rest all whole : Bool) → all ≡ (first && rest) → first ≡ false → all ≡ whole → false ≡ whole
refutes first rest all whole parts fails so_far = ap (λ (b : Bool). b && rest) (sym fails) ∙ sym parts ∙ so_far

-- another one leaves the rest
pub stands : (first rest all whole : Bool) → all ≡ (first && rest) → first ≡ true → all ≡ whole → rest ≡ whole
stands first rest all whole parts holds so_far = ap (λ (b : Bool). b && rest) (sym holds) ∙ sym parts ∙ so_far
