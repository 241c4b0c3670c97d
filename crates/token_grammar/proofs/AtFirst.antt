-- Grammars that are told the place of their first token: FIRST, and how they are read, whatever the place.
use Rattle.std.proofs.Common.{◌≡◌, Bool, false, List, [], ◌∷◌, ◌++◌, Ok, Err, ◌⊎◌, inl, inr, refl, sym, ap, subst, ◌∙◌}
use Rattle.token_grammar.specs.declared.token.Span.{Span}
use Rattle.token_grammar.specs.declared.fault.TokenFault.{TokenFault}
use Rattle.token_grammar.specs.Token.{Lexeme}
use Rattle.token_grammar.specs.Grammar.{Grammar, first_place, at_first, Continues}
use Rattle.token_grammar.proofs.Good.{Set, SameHead, Begins, Takes, Stops, Good, carried}
use Rattle.token_grammar.proofs.Lifted.{Lifted, GoesPast}
use Rattle.token_grammar.proofs.Starts.{Starts}

-- ---- the place of the first token

-- lists that begin with the same token have one first place
place_same : (r r' : List Lexeme) → SameHead r r' → first_place r ≡ first_place r'
place_same [] [] h = refl
place_same [] (t ∷ s) h = absurd h
place_same (t ∷ s) [] h = absurd h
place_same (t ∷ s) (t' ∷ s') h = ap (λ (x : Lexeme). x.at) h

-- of tokens that aren't none, what follows has no say
place_front : (f : Set) (u r : List Lexeme) → Begins f false u → first_place (u ++ r) ≡ first_place u
place_front f [] r h = absurd cc
place_front f (t ∷ u) r h = refl

-- ---- how it continues

-- what continues at the place of its first token continues
begun_at_first : {X : Type 0} (g : Span → Grammar X) (t : Lexeme) (u : List Lexeme) → Continues (g t.at) (t ∷ u)
    → Continues (at_first g) (t ∷ u)
begun_at_first g t u c = record { rest = c.rest; value = c.value; spelled = c.spelled }

-- what stands before a fault
before_at_first : {X : Type 0} (g : Span → Grammar X) (p : Span) (used r : List Lexeme) → p ≡ first_place (used ++ r)
    → Continues (g p) used ⊎ (used ≡ []) → Continues (at_first g) used ⊎ (used ≡ [])
before_at_first g p [] r e c = inr refl
before_at_first {X} g p (t ∷ u) r e (inl c) = inl (begun_at_first g t u (subst (λ q. Continues (g q) (t ∷ u)) e c))
before_at_first g p (t ∷ u) r e (inr none) = inr none

-- and with the token at which it is
with_at_first : {X : Type 0} (g : Span → Grammar X) (p : Span) (used : List Lexeme) (t : Lexeme) (q : List Lexeme)
    → p ≡ first_place (used ++ t ∷ q)
    → Continues (g p) (used ++ t ∷ []) → Continues (at_first g) (used ++ t ∷ [])
with_at_first {X} g p [] t q e c = begun_at_first g t [] (subst (λ z. Continues (g z) (t ∷ [])) e c)
with_at_first {X} g p (x ∷ used) t q e c =
    begun_at_first g x (used ++ t ∷ []) (subst (λ z. Continues (g z) (x ∷ used ++ t ∷ [])) e c)

-- ---- how it reads

-- what is read at the place of the first token is taken
takes_at_first : {X : Type 0} {g : Span → Grammar X} {f m : Set} → ((p : Span) → Good (g p) f false m)
    → (s : List Lexeme) (x : X) (r : List Lexeme) → Takes (g (first_place s)) s x r → Takes (at_first g) s x r
takes_at_first {X} {g} {f} a s x r t =
    let front : first_place (t.used ++ r) ≡ first_place t.used =
    place_front f t.used r ((a (first_place s)).begins t.used x t.spelled) in
    let place : first_place s ≡ first_place t.used = ap first_place t.parts ∙ front in
    record {
      used = t.used;
      parts = t.parts;
      spelled = subst (λ p. (g p).spells t.used x) place t.spelled;
      same = λ r' hd.
          subst (λ p. (g p).reads (t.used ++ r') ≡ Ok (x, r'))
          (place_same s (t.used ++ r') (carried s t.used r r' t.parts hd)) (t.same r' hd);
    }

-- reading stops as it does at that place
stops_at_first : {X : Type 0} (g : Span → Grammar X) (f : TokenFault) (s r : List Lexeme) → Stops (g (first_place s)) f s r
    → Stops (at_first g) f s r
stops_at_first {X} g f s r t = record {
  used = t.used;
  parts = t.parts;
  continues = before_at_first g (first_place s) t.used r (ap first_place t.parts) t.continues;
  same = λ r' hd.
      subst (λ p. (g p).reads (t.used ++ r') ≡ Err (f, r'))
      (place_same s (t.used ++ r') (carried s t.used r r' t.parts hd)) (t.same r' hd);
}

-- and goes past a lifted fault as it does there
past_at_first : {X : Type 0} (g : Span → Grammar X) (s r : List Lexeme) → GoesPast (g (first_place s)) s r
    → GoesPast (at_first g) s r
past_at_first {X} g s r p =
    let whole : s ≡ p.used ++ p.first ∷ p.others = p.parts ∙ ap (λ z. p.used ++ z) p.at in
    record {
      used = p.used;
      parts = p.parts;
      first = p.first;
      others = p.others;
      at = p.at;
      continues = with_at_first g (first_place s) p.used p.first p.others (ap first_place whole) p.continues;
    }

-- ---- the laws

-- the laws, where they hold at every place
pub good_at_first : {X : Type 0} {g : Span → Grammar X} {f m : Set} → ((p : Span) → Good (g p) f false m)
    → Good (at_first g) f false m
good_at_first {X} {g} {f} a = record {
  begins = λ u x w. (a (first_place u)).begins u x w;
  again = λ u x r w clear.
      let front = place_front f u r ((a (first_place u)).begins u x w) in
      subst (λ p. (g p).reads (u ++ r) ≡ Ok (x, r)) (sym front) ((a (first_place u)).again u x r w clear);
  takes = λ s x r e. takes_at_first a s x r ((a (first_place s)).takes s x r e);
  stops = λ s r d e. stops_at_first g d s r ((a (first_place s)).stops s r d e);
}

-- FIRST, where it is the same at every place
pub starts_at_first : {X : Type 0} {set : Set} {g : Span → Grammar X} → ((p : Span) → Starts set (g p))
    → Starts set (at_first g)
starts_at_first {X} {set} {g} a = record { each = λ t there. begun_at_first g t [] ((a t.at).each t there) }

-- limits that are lifted at every place are lifted
pub lifted_at_first : {X : Type 0} {lifts : TokenFault → Bool} {g g' : Span → Grammar X} {f m : Set}
    → ((p : Span) → Good (g' p) f false m)
    → ((p : Span) → Lifted lifts (g p) (g' p)) → Lifted lifts (at_first g) (at_first g')
lifted_at_first {X} {lifts} {g} {g'} a b = record {
  takes = λ s x r e. takes_at_first a s x r ((b (first_place s)).takes s x r e);
  stays = λ s r d e kept. (b (first_place s)).stays s r d e kept;
  passes = λ s r d e lift. past_at_first g' s r ((b (first_place s)).passes s r d e lift);
}
