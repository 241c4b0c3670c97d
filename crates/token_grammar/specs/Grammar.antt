-- Grammars: which tokens spell a value, and what reading from the front gives.
--
-- The words are those of LL(1) grammars, whose reader decides by one token of look-ahead. A grammar is nullable where
-- no token at all spells a value. Its FIRST is the set of the kinds of token with which a spelling begins, and its
-- FOLLOW the set of those that may come after one in the grammar around it. Of two grammars, `either` takes the first
-- where the token at hand is in its FIRST, so the two FIRST sets must be disjoint. Where a spelling may be extended, as
-- that of `many` by one more item, reading extends it if the token at hand is in the set that extends it (the
-- followlast set), so FOLLOW must be disjoint from that set. `Good` in proofs/Good.antt states this and what it implies
-- for reading, and proofs/Fine.antt proves it of each word below from its parts.
use Rattle.std.specs.Prelude.{◌≡◌, ℕ, zero, suc, Bool, true, false, List, [], ◌∷◌, ◌++◌}
use Rattle.std.specs.Prelude.{length, Ok, Err, Option, Some, None, if◌then◌else◌, ◌⊎◌}
use Rattle.token_grammar.specs.declared.token.Kind.{Kind}
use Rattle.token_grammar.specs.declared.token.Span.{Span}
use Rattle.token_grammar.specs.declared.fault.TokenFault.{TokenFault}
use Rattle.token_grammar.specs.declared.fault.TokenFault.TheVariants as faults
use Rattle.token_grammar.specs.Token.{Lexeme, kind_eq, Outcome}

-- a grammar: a relation, which says what the tokens spell, and the reading that belongs to it
pub record Grammar (X : Type 0) : Type 1 where
  -- these tokens, all of them, spell the value
  pub spells : List Lexeme → X → Type 0
  -- what reading from the front gives
  pub reads : List Lexeme → Outcome X

-- continues reading with f of the value that was read; a fault is passed on
abbrev pub and_then : {X Y : Type 0} → Outcome X → (X → List Lexeme → Outcome Y) → Outcome Y
and_then (Ok x) f = f x.0 x.1
and_then (Err e) f = Err e

-- the first token is in the set
abbrev pub heads : (Kind → Bool) → List Lexeme → Bool
heads set [] = false
heads set (t ∷ s) = set t.kind

-- the kinds that are this one
abbrev pub is : Kind → Kind → Bool
is k j = kind_eq j k

-- ---- one token

-- the first token, where it is of that kind
abbrev pub token_at : Kind → List Lexeme → Outcome Lexeme
token_at k [] = Err (faults.Expected, [])
token_at k (t ∷ s) = if kind_eq t.kind k then Ok (t, s) else Err (faults.Expected, t ∷ s)

-- one token of that kind
unfoldable pub token : Kind → Grammar Lexeme
token k = record { spells = λ u t. (u ≡ t ∷ []) × (kind_eq t.kind k ≡ true); reads = token_at k }

-- the first token, where it is in the set
abbrev pub one_of_at : (Kind → Bool) → List Lexeme → Outcome Lexeme
one_of_at set [] = Err (faults.Expected, [])
one_of_at set (t ∷ s) = if set t.kind then Ok (t, s) else Err (faults.Expected, t ∷ s)

-- one token of a kind in the set
unfoldable pub one_of : (Kind → Bool) → Grammar Lexeme
one_of set = record { spells = λ u t. (u ≡ t ∷ []) × (set t.kind ≡ true); reads = one_of_at set }

-- ---- nothing

-- no token, with that value
abbrev pub give : {X : Type 0} → X → Grammar X
give x = record { spells = λ u y. (u ≡ []) × (y ≡ x); reads = λ s. Ok (x, s) }

-- ---- one after the other

-- p and then q
pub record Both {X Y : Type 0} (g : List Lexeme → X → Type 0) (h : X → List Lexeme → Y → Type 0)
    (u : List Lexeme) (y : Y) : Type 0 where
  pub p : List Lexeme
  pub q : List Lexeme
  pub x : X
  pub parts : u ≡ p ++ q
  pub first : g p x
  pub second : h x q y

infixl 10 ◌>>=◌
-- first g, and then what h says of its value
abbrev pub ◌>>=◌ : {X Y : Type 0} → Grammar X → (X → Grammar Y) → Grammar Y
g >>= h = record {
  spells = Both g.spells (λ x. (h x).spells);
  reads = λ s. and_then (g.reads s) (λ x r. (h x).reads r);
}

infixl 10 ◌>>◌
-- first g, and then h
abbrev pub ◌>>◌ : {X Y : Type 0} → Grammar X → Grammar Y → Grammar Y
g >> h = g >>= λ _. h

-- ---- one or the other, by the first token

-- g or h; reading takes g where the token at hand is in the set
abbrev pub either : {X : Type 0} → (Kind → Bool) → Grammar X → Grammar X → Grammar X
either set g h = record {
  spells = λ u x. g.spells u x ⊎ h.spells u x;
  reads = λ s. if heads set s then g.reads s else h.reads s;
}

-- g or nothing
abbrev pub optional : {X : Type 0} → (Kind → Bool) → Grammar X → Grammar (Option X)
optional set g = either set (g >>= λ x. give (Some x)) (give None)

-- ---- limits: what is one too many isn't spelled

-- the fault that a test gives the first token, where that token is in the set
abbrev pub first_refused : (Kind → Bool) → (Lexeme → Option TokenFault) → List Lexeme → Option TokenFault
first_refused set test [] = None
first_refused set test (t ∷ s) = if set t.kind then test t else None

-- the reading, unless its first token is refused
abbrev pub unless_refused : {X : Type 0} → Option TokenFault → List Lexeme → Outcome X → Outcome X
unless_refused None s read = read
unless_refused (Some f) s read = Err (f, s)

-- the fault that a test gives, unless it is lifted
abbrev pub unless_lifted : (TokenFault → Bool) → Option TokenFault → Option TokenFault
unless_lifted lifts None = None
unless_lifted lifts (Some f) = if lifts f then None else Some f

-- g, unless its first token is in the set and the test gives that token a fault: then nothing is spelled, and reading
-- is refused with that fault
abbrev pub allowed : {X : Type 0} → (Kind → Bool) → (Lexeme → Option TokenFault) → Grammar X → Grammar X
allowed set test g = record {
  spells = λ u x. (first_refused set test u ≡ None) × g.spells u x;
  reads = λ s. unless_refused (first_refused set test s) s (g.reads s);
}

-- ---- the place of the first token

-- the place of the first token
abbrev pub first_place : List Lexeme → Span
first_place [] = record { line = 0; column = 0 }
first_place (t ∷ s) = t.at

-- the grammar that g gives for the place of the first token
abbrev pub at_first : {X : Type 0} → (Span → Grammar X) → Grammar X
at_first g = record {
  spells = λ u x. (g (first_place u)).spells u x;
  reads = λ s. (g (first_place s)).reads s;
}

-- ---- any number

-- p spells x, and then the rest
pub record Before {X : Type 0} (g : List Lexeme → X → Type 0) (x : X) (rest : List Lexeme → Type 0)
    (u : List Lexeme) : Type 0 where
  pub p : List Lexeme
  pub q : List Lexeme
  pub parts : u ≡ p ++ q
  pub first : g p x
  pub second : rest q

-- each part in turn spells its item
abbrev pub many_spells : {X : Type 0} → (List Lexeme → X → Type 0) → List Lexeme → List X → Type 0
many_spells g u [] = u ≡ []
many_spells g u (x ∷ xs) = Before g x (λ q. many_spells g q xs) u

-- reads at most n of them
unfoldable pub many_reads : {X : Type 0}
    → (Kind → Bool) → (List Lexeme → Outcome X) → ℕ → List Lexeme → Outcome (List X)
many_reads set f zero s = Ok ([], s)
many_reads set f (suc n) s =
    if heads set s
    then and_then (f s) (λ x r. and_then (many_reads set f n r) (λ xs q. Ok (x ∷ xs, q)))
    else Ok ([], s)

-- any number; reading takes one more while the token at hand is in the set
unfoldable pub many : {X : Type 0} → (Kind → Bool) → Grammar X → Grammar (List X)
many set g =
    record { spells = many_spells g.spells; reads = λ s. many_reads set g.reads (length s) s }

-- the items that were read, before those still to be read
abbrev pub after : {X : Type 0} → List X → Outcome (List X) → Outcome (List X)
after front read = and_then read (λ xs r. Ok (front ++ xs, r))

-- ---- any number, where what may come next depends on what came

-- each part in turn spells its item, by what came before
abbrev pub many_from_spells : {S X : Type 0}
    → (S → List Lexeme → X → Type 0) → (S → X → S) → S → List Lexeme → List X → Type 0
many_from_spells g next s u [] = u ≡ []
many_from_spells g next s u (x ∷ xs) =
    Before (g s) x (λ q. many_from_spells g next (next s x) q xs) u

-- reads at most n of them
unfoldable pub many_from_reads : {S X : Type 0}
    → (S → Kind → Bool) → (S → List Lexeme → Outcome X) → (S → X → S)
    → ℕ → S → List Lexeme → Outcome (List X)
many_from_reads set f next zero s t = Ok ([], t)
many_from_reads set f next (suc n) s t =
    if heads (set s) t
    then and_then (f s t)
    (λ x r. and_then (many_from_reads set f next n (next s x) r) (λ xs q. Ok (x ∷ xs, q)))
    else Ok ([], t)

-- any number; next gives the state after an item, on which the items after it depend
unfoldable pub many_from : {S X : Type 0}
    → (S → Kind → Bool) → (S → Grammar X) → (S → X → S) → S → Grammar (List X)
many_from set g next s = record {
  spells = many_from_spells (λ z. (g z).spells) next s;
  reads = λ t. many_from_reads set (λ z. (g z).reads) next (length t) s t;
}

-- ---- texts

-- nothing is left
abbrev pub ended : {X : Type 0} → X → List Lexeme → Outcome X
ended x [] = Ok (x, [])
ended x (t ∷ r) = Err (faults.Expected, t ∷ r)

-- a value, and then the end
abbrev pub whole_reads : {X : Type 0} → Grammar X → List Lexeme → Outcome X
whole_reads g s = and_then (g.reads s) ended

-- some tokens after u make the spelling of some value
pub record Continues {X : Type 0} (g : Grammar X) (u : List Lexeme) : Type 0 where
  pub rest : List Lexeme
  pub value : X
  pub spelled : g.spells (u ++ rest) value

-- s doesn't spell a value, and its first token that doesn't continue what stands before it is the
-- first of r; where r is empty, s ends too early
pub record FirstFault {X : Type 0} (g : Grammar X) (s r : List Lexeme) : Type 0 where
  pub before : List Lexeme
  pub parts : s ≡ before ++ r
  pub continues : Continues g before
  pub unfinished : (x : X) → g.spells s x → ⊥
  pub ends : (t : Lexeme) (q : List Lexeme) → r ≡ t ∷ q → Continues g (before ++ t ∷ []) → ⊥
