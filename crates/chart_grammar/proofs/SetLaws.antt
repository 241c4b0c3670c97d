-- Sets that don't compute, without what adds nothing; and what begins with a token of a set.
use Rattle.std.proofs.Common.{◌≡◌, Bool, true, false, List, [], ◌∷◌, None, refl, inl, inr, ◌||◌}
use Rattle.std.proofs.lemmas.Bool.{cases_Bool}
use Rattle.token_grammar.specs.Token.{Lexeme}
use Rattle.token_grammar.specs.Grammar.{Grammar, first_refused}
use Rattle.token_grammar.proofs.Good.{Set, nothing, also, Within, Begins, Good, good_wider}
use Rattle.token_grammar.proofs.Sets.{disjoint, subset, disjoint_apart, subset_within, apart}
use Rattle.token_grammar.proofs.Allowed.{good_allowed}
use Rattle.chart_grammar.specs.States.{unexpected, beginning}

-- ---- sets

-- a choice with false is the other
only_left : (a : Bool) → (a || false) ≡ true → a ≡ true
only_left true h = refl
only_left false h = absurd cc

-- what stands after a part that isn't empty begins nothing
pub within_clean : (f h : Set) → Within (also f false h) f
within_clean f h k there = only_left (f k) there

-- a FIRST set without what a part that isn't nullable would add
pub good_clean : {X : Type 0} {g : Grammar X} {f m : Set} {n : Bool} (h : Set) → Good g (also f false h) n m
    → Good g f n m
good_clean {X} {g} {f} h a = good_wider (within_clean f h) (λ k there. there) a

-- and goes on with nothing more where a part that isn't empty stands after it
pub good_cleaner : {X : Type 0} {g : Grammar X} {f m : Set} {n : Bool} (h h' : Set)
    → Good g (also f false h) n (also m false h') → Good g f n m
good_cleaner {X} {g} {f} {m} h h' a = good_wider (within_clean f h) (within_clean m h') a

-- a set is in itself
pub same_set : (set : Set) → subset set set ≡ true
same_set set = subset_within set set (λ k there. there)

-- no kind is in the empty set
pub none_shared : (f : Set) → disjoint f nothing ≡ true
none_shared f = disjoint_apart f nothing (λ k there. refl)

-- sets stay disjoint without what adds nothing
pub clean_apart : (set m : Set) → disjoint set m ≡ true → disjoint (also set true nothing) m ≡ true
clean_apart set m e = disjoint_apart (also set true nothing) m (λ k there. apart set m e k (only_left (set k) there))

-- ---- what begins with a token of a set

-- what begins in a FIRST set, and isn't refused, begins in the smaller set
in_set : (f set : Set) (u : List Lexeme) → Begins f false u → first_refused (λ k. true) (unexpected set) u ≡ None
    → Begins set false u
in_set f set [] begins passes = absurd cc
in_set f set (t ∷ u) begins passes =
    elim (cases_Bool (set t.kind)) [
      | inl there ↦ there
      | inr away ↦ absurd (let bad = rw away at passes in cc)
    ]

-- a production that must begin with a token of a set has that set as its FIRST set
pub good_beginning : {X : Type 0} {g : Grammar X} {f m : Set} (set : Set) → Good g f false m
    → Good (beginning set g) set false m
good_beginning {X} {g} {f} set a =
    let guarded = good_allowed (λ k. true) (unexpected set) a in
    record {
      begins = λ u x w. in_set f set u (a.begins u x w.1) w.0;
      again = guarded.again;
      takes = guarded.takes;
      stops = guarded.stops;
    }
