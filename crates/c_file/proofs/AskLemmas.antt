-- Loops that ask of each item of a list.
use Rattle.std.proofs.Common.{◌≡◌, ℕ, ◌≤◌, Bool, true, false, ◌||◌, List, [], length, drop, sym, ap, ◌∙◌}
use Rattle.std.proofs.lemmas.List.{at_drop_all}

-- an answer that is true decides
pub decides : (first rest all whole : Bool) → all ≡ (first || rest) → first ≡ true → all ≡ whole → true ≡ whole
decides first rest all whole parts holds so_far = ap (λ (b : Bool). b || rest) (sym holds) ∙ sym parts ∙ so_far

-- an answer that is false leaves the rest
pub passes : (first rest all whole : Bool) → all ≡ (first || rest) → first ≡ false → all ≡ whole → rest ≡ whole
passes first rest all whole parts fails so_far = ap (λ (b : Bool). b || rest) (sym fails) ∙ sym parts ∙ so_far

-- after the last item none is left
pub none_left : {X : Type 0} (F : List X → Bool) (xs : List X) (i : ℕ) (whole : Bool)
    → length xs ≤ i → F (drop i xs) ≡ whole → F [] ≡ whole
none_left F xs i whole past so_far = sym (at_drop_all F xs i past) ∙ so_far
