-- Code that is written in parts, and one turn of a loop over the states or junctions of a chart.
use Rattle.std.proofs.Common.{◌≡◌, ◌∙◌, ℕ, suc, List, ◌++◌, map, sym, ap, append_assoc}
use Rattle.std.proofs.lemmas.List.{map-append, append-nil}
use Rattle.chart_code.specs.Orders.{ascending, descending}

-- two parts
pub two_parts : {A : Type 0} (old one new a b : List A) → one ≡ old ++ a → new ≡ one ++ b → new ≡ old ++ (a ++ b)
two_parts old one new a b first second = second ∙ ap (λ l. l ++ b) first ∙ append_assoc old a b

-- three parts
pub three_parts : {A : Type 0} (old one two new a b c : List A) → one ≡ old ++ a → two ≡ one ++ b → new ≡ two ++ c
    → new ≡ old ++ (a ++ (b ++ c))
three_parts old one two new a b c first second third =
    two_parts one two new b c second third ∙ ap (λ l. l ++ (b ++ c)) first ∙ append_assoc old a (b ++ c)

-- what is made of the numbers below n and of n is made of those below the next number m
pub ascending_turn : {A B : Type 0} (g : A → B) (f : ℕ → List A) (n m : ℕ) (first old new : List B)
    → m ≡ suc n → old ≡ first ++ map g (ascending f n) → new ≡ old ++ map g (f n)
    → new ≡ first ++ map g (ascending f m)
unfolding ascending
ascending_turn g f n m first old new next before step =
    step ∙ ap (λ l. l ++ map g (f n)) before ∙ append_assoc first (map g (ascending f n)) (map g (f n))
    ∙ ap (λ l. first ++ l) (sym (map-append g (ascending f n) (f n)))
    ∙ ap (λ k. first ++ map g (ascending f k)) (sym next)

-- nothing is made yet
pub ascending_start : {A B : Type 0} (g : A → B) (f : ℕ → List A) (first : List B)
    → first ≡ first ++ map g (ascending f 0)
unfolding ascending
ascending_start g f first = sym (append-nil first)

-- what is written and what is made of the numbers below n are all; the same for the number m before n
pub descending_turn : {A B : Type 0} (g : A → B) (f : ℕ → List A) (n m : ℕ) (old new all : List B)
    → n ≡ suc m → old ++ map g (descending f n) ≡ all → new ≡ old ++ map g (f m)
    → new ++ map g (descending f m) ≡ all
unfolding descending
descending_turn g f n m old new all next before step =
    ap (λ l. l ++ map g (descending f m)) step
    ∙ append_assoc old (map g (f m)) (map g (descending f m))
    ∙ ap (λ l. old ++ l) (sym (map-append g (f m) (descending f m)))
    ∙ ap (λ k. old ++ map g (descending f k)) (sym next) ∙ before

-- nothing is left
pub descending_over : {A B : Type 0} (g : A → B) (f : ℕ → List A) (n : ℕ) (old all : List B)
    → n ≡ 0 → old ++ map g (descending f n) ≡ all → old ≡ all
unfolding descending
descending_over g f n old all none before =
    sym (append-nil old) ∙ ap (λ k. old ++ map g (descending f k)) (sym none) ∙ before
