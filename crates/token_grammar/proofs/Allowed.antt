-- Limits: a first token that a test refuses, and what is never spelled. A limit leaves FIRST as it is.
use Rattle.std.proofs.Common.{◌≡◌, Bool, false, cond, List, [], ◌∷◌, ◌++◌, Err}
use Rattle.std.proofs.Common.{Option, Some, None, ◌⊎◌, inl, inr, refl, sym, ap, ◌∙◌}
use Rattle.token_grammar.specs.declared.token.Kind.{Kind}
use Rattle.token_grammar.specs.declared.fault.TokenFault.{TokenFault}
use Rattle.token_grammar.specs.declared.fault.TokenFault.TheVariants as faults
use Rattle.token_grammar.specs.Token.{Lexeme}
use Rattle.token_grammar.specs.Grammar.{Grammar, heads, first_refused, allowed, Continues}
use Rattle.token_grammar.proofs.Good.{Set, SameHead, Begins, Takes, Stops, Good, carried, stops_at_hand}

-- ---- what the test says of the first token

-- the test looks at no token after the first
refused_same : (set : Set) (test : Lexeme → Option TokenFault) (r r' : List Lexeme) → SameHead r r'
    → first_refused set test r ≡ first_refused set test r'
refused_same set test [] [] h = refl
refused_same set test [] (t ∷ s) h = absurd h
refused_same set test (t ∷ s) [] h = absurd h
refused_same set test (t ∷ s) (t' ∷ s') h = ap (λ (x : Lexeme). cond (set x.kind) (test x) None) h

-- of tokens that aren't none, what follows has no say
refused_front : (set f : Set) (test : Lexeme → Option TokenFault) (u r : List Lexeme) → Begins f false u
    → first_refused set test (u ++ r) ≡ first_refused set test u
refused_front set f test [] r h = absurd cc
refused_front set f test (t ∷ u) r h = refl

-- what a test says that looks at no token
pub refused_always : (set : Set) (said : Option TokenFault) (s : List Lexeme)
    → first_refused set (λ t. said) s ≡ cond (heads set s) said None
refused_always set said [] = refl
refused_always set said (t ∷ s) = refl

-- a test has no fault, or one
pub said_cases : (said : Option TokenFault) → (said ≡ None) ⊎ ((f : TokenFault) × (said ≡ Some f))
said_cases None = inl refl
said_cases (Some f) = inr (f, refl)

-- ---- allowed

-- what begins with a token that passes continues as it does without the limit
pub allowed_begun : {X : Type 0} {g : Grammar X} (set : Set) (test : Lexeme → Option TokenFault) (t : Lexeme)
    (u : List Lexeme)
    → first_refused set test (t ∷ []) ≡ None → Continues g (t ∷ u) → Continues (allowed set test g) (t ∷ u)
allowed_begun set test t u passes c = record { rest = c.rest; value = c.value; spelled = (passes, c.spelled) }

-- and so does what stands before a fault
allowed_continues : {X : Type 0} {g : Grammar X} (set : Set) (test : Lexeme → Option TokenFault) (used r : List Lexeme)
    → first_refused set test (used ++ r) ≡ None → Continues g used ⊎ (used ≡ [])
    → Continues (allowed set test g) used ⊎ (used ≡ [])
allowed_continues set test [] r passes c = inr refl
allowed_continues set test (t ∷ u) r passes (inl c) = inl (allowed_begun set test t u passes c)
allowed_continues set test (t ∷ u) r passes (inr none) = inr none

-- the tokens that were used pass as the whole does
used_pass : (set : Set) (test : Lexeme → Option TokenFault) (used r : List Lexeme)
    → first_refused set test (used ++ r) ≡ None
    → first_refused set test used ≡ None
used_pass set test [] r passes = refl
used_pass set test (t ∷ u) r passes = passes

-- within the limit, what is read is taken
pub takes_allowed : {X : Type 0} {g : Grammar X} (set : Set) (test : Lexeme → Option TokenFault) (s : List Lexeme) (x : X)
    (r : List Lexeme)
    → first_refused set test s ≡ None → Takes g s x r → Takes (allowed set test g) s x r
takes_allowed set test s x r passes t = record {
  used = t.used;
  parts = t.parts;
  spelled = (used_pass set test t.used r (ap (first_refused set test) (sym t.parts) ∙ passes), t.spelled);
  same =
      λ r' hd. rw (sym (refused_same set test s (t.used ++ r') (carried s t.used r r' t.parts hd)) ∙ passes) (t.same r' hd);
}

-- within the limit, reading stops as it does without it
stops_allowed : {X : Type 0} {g : Grammar X} (set : Set) (test : Lexeme → Option TokenFault) (f : TokenFault) (s r : List Lexeme)
    → first_refused set test s ≡ None → Stops g f s r → Stops (allowed set test g) f s r
stops_allowed set test f s r passes t = record {
  used = t.used;
  parts = t.parts;
  continues = allowed_continues set test t.used r (ap (first_refused set test) (sym t.parts) ∙ passes) t.continues;
  same =
      λ r' hd. rw (sym (refused_same set test s (t.used ++ r') (carried s t.used r r' t.parts hd)) ∙ passes) (t.same r' hd);
}

-- a token that the test refuses stops the reading
stops_refused : {X : Type 0} {g : Grammar X} (set : Set) (test : Lexeme → Option TokenFault) (d : TokenFault) (s : List Lexeme)
    → first_refused set test s ≡ Some d
    → (r : List Lexeme) (f : TokenFault) → (allowed set test g).reads s ≡ Err (f, r) → Stops (allowed set test g) f s r
stops_refused {X} {g} set test d s full r f e =
    stops_at_hand (allowed set test g) d s (λ r' h. rw (sym (refused_same set test s r' h) ∙ full) refl) r f e

-- the laws under a limit
pub good_allowed : {X : Type 0} {g : Grammar X} {f m : Set} (set : Set) (test : Lexeme → Option TokenFault)
    → Good g f false m
    → Good (allowed set test g) f false m
good_allowed {X} {g} {f} set test a = record {
  begins = λ u x w. a.begins u x w.1;
  again = λ u x r w clear. rw (refused_front set f test u r (a.begins u x w.1) ∙ w.0) (a.again u x r w.1 clear);
  takes = λ s x r e.
      elim (said_cases (first_refused set test s)) [
        | inl passes ↦ takes_allowed set test s x r passes (a.takes s x r (rw passes at e))
        | inr full ↦ absurd (let bad = rw full.1 at e in cc)
      ];
  stops = λ s r d e.
      elim (said_cases (first_refused set test s)) [
        | inl passes ↦ stops_allowed set test d s r passes (a.stops s r d (rw passes at e))
        | inr full ↦ stops_refused set test full.0 s full.1 r d e
      ];
}

-- ---- forbidden

-- no tokens spell any value; a token of the set is refused with the fault, any other one, and the end, as Expected
unfoldable pub forbidden : {X : Type 0} → (Kind → Bool) → TokenFault → Grammar X
forbidden set fault = record {
  spells = λ u x. ⊥;
  reads = λ s. Err (cond (heads set s) fault faults.Expected, s);
}
