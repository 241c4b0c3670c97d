-- Any number of the same: FIRST and the reading, from many_from with a state that tells nothing.
use Rattle.std.proofs.Common.{◌≡◌, ℕ, zero, suc, true, false, cond, List, [], ◌∷◌, length, Ok, Err, refl, ap}
use Rattle.token_grammar.specs.Token.{Lexeme, Outcome}
use Rattle.token_grammar.specs.Grammar.{Grammar, and_then, heads, many, many_spells, many_reads}
use Rattle.token_grammar.specs.Grammar.{many_from, many_from_spells, many_from_reads}
use Rattle.token_grammar.proofs.Good.{Set, Good, Sample, Within, Apart, also}
use Rattle.token_grammar.proofs.Alike.{Alike, good_alike}
use Rattle.token_grammar.proofs.State.{consed, from_good}

-- the same as many_from
abbrev pub repeated : {X : Type 0} → Set → Grammar X → Grammar (List X)
repeated set g = many_from (λ (z : ℕ). set) (λ z. g) (λ z x. z) 0

-- two ways to go on that agree give the same
pub on_both : {X Y : Type 0} (o : Outcome X) (j k : X → List Lexeme → Outcome Y)
    → ((x : X) (r : List Lexeme) → j x r ≡ k x r)
    → and_then o j ≡ and_then o k
on_both (Ok p) j k same = same p.0 p.1
on_both (Err d) j k same = refl

-- both read the same
reads_alike : {X : Type 0} (set : Set) (f : List Lexeme → Outcome X) (n : ℕ) (s : List Lexeme)
    → many_reads set f n s ≡ many_from_reads (λ (z : ℕ). set) (λ z. f) (λ z x. z) n 0 s
unfolding many_reads many_from_reads
reads_alike set f zero s = refl
reads_alike set f (suc n) s =
    ap (λ (o : Outcome (List _)). cond (heads set s) o (Ok ([], s)))
    (on_both (f s) _ _ (λ x r. ap (consed x) (reads_alike set f n r)))

-- what many spells, many_from spells
spelled_so : {X : Type 0} (g : List Lexeme → X → Type 0) (u : List Lexeme) (xs : List X) → many_spells g u xs
    → many_from_spells (λ (z : ℕ). g) (λ z x. z) 0 u xs
spelled_so g u [] w = w
spelled_so g u (x ∷ xs) w = record { p = w.p; q = w.q; parts = w.parts; first = w.first; second = spelled_so g w.q xs w.second }

-- and the other way round
spelled_back : {X : Type 0} (g : List Lexeme → X → Type 0) (u : List Lexeme) (xs : List X)
    → many_from_spells (λ (z : ℕ). g) (λ z x. z) 0 u xs
    → many_spells g u xs
spelled_back g u [] w = w
spelled_back g u (x ∷ xs) w = record { p = w.p; q = w.q; parts = w.parts; first = w.first; second = spelled_back g w.q xs w.second }

-- the two are equivalent
pub many_alike : {X : Type 0} (set : Set) (g : Grammar X) → Alike (many set g) (repeated set g)
unfolding many many_from
many_alike set g = record {
  read = λ s. reads_alike set g.reads (length s) s;
  spelled = spelled_so g.spells;
  back = spelled_back g.spells;
}

-- the laws of any number
pub many_good : {X : Type 0} {g : Grammar X} {f m : Set} (set : Set) → Good g f false m → Within f set → Apart f m
    → Good (many set g) f true (also set true m)
many_good {X} {g} {f} {m} set a within apart =
    good_alike (many_alike set g)
    (from_good (λ (z : ℕ). set) (λ z. g) (λ z x. z) (λ z. f) m f set
    (record { good = λ z. a; heading = λ z k there. there; within = λ z. within; known = λ z k there. there; apart = apart }) 0)

-- no item is a spelling
pub sample_many : {X : Type 0} (set : Set) (g : Grammar X) → Sample (many set g)
unfolding many
sample_many set g = record { tokens = []; value = []; spelled = refl }
