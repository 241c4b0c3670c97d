-- One token, one of a set, and nothing: their FIRST, nullable and the reading.
use Rattle.std.proofs.Common.{◌≡◌, true, false, List, [], ◌∷◌, Ok, Err, refl, sym, ap, inl, inr, eq-eqb}
use Rattle.std.proofs.lemmas.Bool.{cases_Bool}
use Rattle.token_grammar.specs.declared.token.Kind.{Kind}
use Rattle.token_grammar.specs.declared.fault.TokenFault.{TokenFault}
use Rattle.token_grammar.specs.declared.fault.TokenFault.TheVariants as faults
use Rattle.token_grammar.specs.Token.{Lexeme, kind_eq, Outcome}
use Rattle.token_grammar.specs.Grammar.{is, token, one_of, one_of_at, give}
use Rattle.token_grammar.proofs.Good.{Set, nothing, Takes, Stops, Good, Sample}
use Rattle.token_grammar.proofs.Good.{same_nil, same_cons, done_is, stops_at_hand}
use Rattle.token_grammar.proofs.Alike.{Alike, good_alike}

-- a token of the kind, for a sample
abbrev pub plain : Kind → Lexeme
plain k = record { kind = k; text = []; at = record { line = 0; column = 0 } }

-- a kind is equal to itself
pub kind_eq-refl : (k : Kind) → kind_eq k k ≡ true
kind_eq-refl k = eq-eqb _ _ refl

-- ---- one of a set

-- the first token, read
abbrev one : Lexeme → List Lexeme → Outcome Lexeme
one t r = Ok (t, r)

-- a token of the set is taken
one_of_takes : (set : Set) (s : List Lexeme) (x : Lexeme) (r : List Lexeme) → one_of_at set s ≡ Ok (x, r)
    → Takes (one_of set) s x r
unfolding one_of
one_of_takes set [] x r e = absurd cc
one_of_takes set (t ∷ s) x r e =
    elim (cases_Bool (set t.kind)) [
      | inl fits ↦
          let d = done_is t x s r (rw fits at e) in
          record {
            used = t ∷ [];
            parts = ap (λ (y : List Lexeme). t ∷ y) d.rest;
            spelled = (ap (λ (y : Lexeme). y ∷ []) d.value, rw (← d.value) fits);
            same = λ r' h. rw fits (ap (λ (y : Lexeme). one y r') d.value);
          }
      | inr other ↦ absurd (let f = rw other at e in cc)
    ]

-- any other stops the reading
one_of_stops : (set : Set) (s r : List Lexeme) (f : TokenFault) → one_of_at set s ≡ Err (f, r) → Stops (one_of set) f s r
unfolding one_of
one_of_stops set [] r f e = stops_at_hand (one_of set) faults.Expected [] (λ r' h. rw (same_nil r' h) refl) r f e
one_of_stops set (t ∷ s) r f e =
    elim (cases_Bool (set t.kind)) [
      | inl fits ↦ absurd (let g = rw fits at e in cc)
      | inr other ↦
          stops_at_hand (one_of set) faults.Expected (t ∷ s) (λ r' h. let p = same_cons t s r' h in rw (p.1, other) refl) r f e
    ]

-- the laws of one token of a set: FIRST is the set
pub good_one_of : (set : Set) → Good (one_of set) set false nothing
unfolding one_of
good_one_of set = record {
  begins = λ u x h. rw h.0 h.1;
  again = λ u x r h clear. rw (h.0, h.1) refl;
  takes = one_of_takes set;
  stops = one_of_stops set;
}

-- a token of the set is a spelling
pub sample_one_of : (set : Set) (k : Kind) → set k ≡ true → Sample (one_of set)
unfolding one_of
sample_one_of set k there = record { tokens = plain k ∷ []; value = plain k; spelled = (refl, there) }

-- ---- one of a kind

-- a kind is a set of one
token_alike : (k : Kind) → Alike (token k) (one_of (is k))
unfolding token one_of
token_alike k = record { read = λ s. read_alike s; spelled = λ u x w. w; back = λ u x w. w }
  where
    read_alike : (s : List Lexeme) → (token k).reads s ≡ (one_of (is k)).reads s
    read_alike [] = refl
    read_alike (t ∷ s) = refl

-- the laws of one token of a kind
pub good_token : (k : Kind) → Good (token k) (λ j. kind_eq j k) false nothing
good_token k = good_alike (token_alike k) (good_one_of (is k))

-- a token of the kind is a spelling
pub sample_token : (k : Kind) → Sample (token k)
unfolding token
sample_token k = record { tokens = plain k ∷ []; value = plain k; spelled = (refl, kind_eq-refl k) }

-- ---- nothing

-- the laws of nothing: it is nullable, and FIRST is empty
pub good_give : {X : Type 0} (x : X) → Good (give x) nothing true nothing
good_give x = record {
  begins = λ u y h. rw h.0 refl;
  again = λ u y r h clear. rw (h.0, h.1) refl;
  takes = λ s y r e.
      let d = done_is x y s r e in
      record { used = []; parts = d.rest; spelled = (refl, sym d.value); same = λ r' h. ap (λ (z : _). Ok (z, r')) d.value };
  stops = λ s r f e. absurd cc;
}

-- no token is a spelling
pub sample_give : {X : Type 0} (x : X) → Sample (give x)
sample_give x = record { tokens = []; value = x; spelled = (refl, refl) }
