-- Chains of operators read as they spell, over operands that do.
-- `fine_x` says of the production x that it is LL(1): with its FIRST set, whether it is nullable, and the kinds that
-- may go on with what is read, which its FOLLOW must not have. `good_x` says so of one of which limits may leave no
-- spelling.
use Rattle.std.proofs.Common.{◌≡◌, ℕ, ◌+◌, Bool, true, false, refl, ◌||◌}
use Rattle.token_grammar.proofs.Good.{Set, nothing, also, Good, good_wider}
use Rattle.token_grammar.proofs.Sets.{disjoint}
use Rattle.token_grammar.proofs.Fine.{Fine, fine_give, fine_then, good_then, fine_optional, fine_many_from}
use Rattle.chart_grammar.specs.Limits.{Limits}
use Rattle.chart_grammar.specs.Expressions.{bin_word}
use Rattle.chart_grammar.proofs.SetLaws.{within_clean, good_cleaner, same_set, none_shared, clean_apart}
use Rattle.chart_grammar.proofs.ChainLaws.{good_operator}
use Rattle.statechart_grammar.specs.Expressions.{Operands, tail, tails, joined, compared, chain, pair}

-- an operator of the set, and what may go on with an operand goes on with it
pub good_tail : (l : Limits) (set : Set) {operand : Operands} {f m : Set} → ((n : ℕ) → Fine (operand n) f false m)
    → (n : ℕ) → Good (tail l set operand n) set false m
unfolding tail
good_tail l set {operand} {f} {m} a n =
    good_cleaner (also f false nothing) nothing
    (good_then (good_operator l set n) (λ t.
    fine_then (a (n + 1)) (λ right.
    fine_give (record { word = bin_word t.kind; at = t.at; right = right })) refl) (none_shared (also f false nothing)))

pub fine_tails : (l : Limits) (set : Set) {operand : Operands} {f m : Set} → ((n : ℕ) → Fine (operand n) f false m)
    → disjoint set m ≡ true
    → (n : ℕ) → Fine (tails l set operand n) set true (also set true m)
unfolding tails
fine_tails l set a e n =
    fine_many_from (λ z. set) (λ z t. t.right.operators) set n (good_tail l set a) (λ z. same_set set)
    (λ z. same_set set) e

-- an operator goes on with a chain
pub fine_chain : (l : Limits) (set : Set) {operand : Operands} {f m : Set} → ((n : ℕ) → Fine (operand n) f false m)
    → disjoint set m ≡ true
    → (n : ℕ) → Fine (chain l set operand n) f false (also set true m)
unfolding chain
fine_chain l set {operand} {f} {m} a e n = record {
  good = good_wider (within_clean f (also set true nothing)) (λ k. more (set k) (m k)) whole.good;
  sample = whole.sample;
}
  where
    whole : Fine (chain l set operand n) (also f false (also set true nothing)) false
        (also (also nothing true (also set true m)) true m)
    whole =
        fine_then (a n) (λ first.
        fine_then (fine_tails l set a e first.operators) (λ others.
        fine_give (joined first others)) refl) (clean_apart set m e)

    more : (o m : Bool) → ((o || m) || m) ≡ true → (o || m) ≡ true
    more true m h = refl
    more false true h = refl
    more false false h = h

-- and with a pair
pub fine_pair : (l : Limits) (set : Set) {operand : Operands} {f m : Set} → ((n : ℕ) → Fine (operand n) f false m)
    → disjoint set m ≡ true
    → (n : ℕ) → Fine (pair l set operand n) f false (also set true m)
unfolding pair
fine_pair l set {operand} {f} {m} a e n = record {
  good = good_wider (within_clean f (also set true nothing)) (λ k. more (set k) (m k)) whole.good;
  sample = whole.sample;
}
  where
    whole : Fine (pair l set operand n) (also f false (also set true nothing)) false
        (also (also nothing true (also m true set)) true m)
    whole =
        fine_then (a n) (λ first.
        fine_then (fine_optional set (good_tail l set a first.operators) (same_set set)) (λ second.
        fine_give (compared first second)) refl) (clean_apart set m e)

    more : (o m : Bool) → ((m || o) || m) ≡ true → (o || m) ≡ true
    more true m h = refl
    more false true h = refl
    more false false h = h
