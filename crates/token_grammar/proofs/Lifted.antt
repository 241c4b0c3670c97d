-- The reading of a grammar compared with that of one in which the limits of some faults are lifted.
use Rattle.std.proofs.Common.{◌≡◌, Bool, true, false, List, [], ◌∷◌, ◌++◌, Ok, Err, Some}
use Rattle.std.proofs.Common.{None, refl, sym, ap, subst, ◌∙◌, append_assoc, inl, inr}
use Rattle.std.proofs.lemmas.Bool.{cases_Bool}
use Rattle.token_grammar.specs.declared.token.Kind.{Kind}
use Rattle.token_grammar.specs.declared.fault.TokenFault.{TokenFault}
use Rattle.token_grammar.specs.declared.fault.TokenFault.TheVariants as faults
use Rattle.token_grammar.specs.Token.{Lexeme}
use Rattle.token_grammar.specs.Grammar.{Grammar, heads, is, token, one_of, give, ◌>>=◌, either, optional, Continues}
use Rattle.token_grammar.proofs.Good.{Set, Takes, Good, Sample, same-refl, joined, bind_ok, bind_err, stopped_is}
use Rattle.token_grammar.proofs.Alike.{Alike, takes_alike, continues_alike}
use Rattle.token_grammar.proofs.Leaves.{good_token, good_one_of, good_give, sample_token, sample_one_of, sample_give}
use Rattle.token_grammar.proofs.Join.{then_begun, then_behind, takes_both, sample_then}
use Rattle.token_grammar.proofs.Join.{either_left, either_right, takes_left, takes_right}

-- reading stopped at a token with which g' goes on
pub record GoesPast {X : Type 0} (g' : Grammar X) (s r : List Lexeme) : Type 0 where
  pub used : List Lexeme
  pub parts : s ≡ used ++ r
  pub first : Lexeme
  pub others : List Lexeme
  pub at : r ≡ first ∷ others
  pub continues : Continues g' (used ++ first ∷ [])

-- g' is g with the limits of some faults lifted
pub record Lifted {X : Type 0} (lifts : TokenFault → Bool) (g g' : Grammar X) : Type 0 where
  -- what g reads, g' reads
  pub takes : (s : List Lexeme) (x : X) (r : List Lexeme) → g.reads s ≡ Ok (x, r) → Takes g' s x r
  -- where g stops by a fault that isn't lifted, g' stops too
  pub stays : (s r : List Lexeme) (f : TokenFault) → g.reads s ≡ Err (f, r) → lifts f ≡ false → g'.reads s ≡ Err (f, r)
  -- where g stops by one that is, g' goes on with the token
  pub passes : (s r : List Lexeme) (f : TokenFault) → g.reads s ≡ Err (f, r) → lifts f ≡ true → GoesPast g' s r

-- the same, and g' has a spelling
pub record Eased {X : Type 0} (lifts : TokenFault → Bool) (g g' : Grammar X) : Type 0 where
  pub lifted : Lifted lifts g g'
  pub sample : Sample g'

-- ---- tools

-- what was taken is what reading gives
pub read_again : {X : Type 0} {g : Grammar X} {s : List Lexeme} {x : X} {r : List Lexeme} → Takes g s x r
    → g.reads s ≡ Ok (x, r)
read_again {X} {g} {s} {x} {r} t = rw t.parts (t.same r (same-refl r))

-- what g reads, g' reads
pub still_reads : {X : Type 0} {lifts : TokenFault → Bool} {g g' : Grammar X} → Lifted lifts g g'
    → (s : List Lexeme) (x : X) (r : List Lexeme)
    → g.reads s ≡ Ok (x, r) → g'.reads s ≡ Ok (x, r)
still_reads a s x r e = read_again (a.takes s x r e)

-- what goes on in g' goes on in another that continues where g' does
pub past_by : {X Y : Type 0} {g : Grammar X} {h : Grammar Y} (s r : List Lexeme)
    → ((u : List Lexeme) → Continues g u → Continues h u)
    → GoesPast g s r → GoesPast h s r
past_by s r more p = record {
  used = p.used;
  parts = p.parts;
  first = p.first;
  others = p.others;
  at = p.at;
  continues = more (p.used ++ p.first ∷ []) p.continues;
}

-- after tokens that were used
pub past_behind : {X Y : Type 0} {g : Grammar X} {h : Grammar Y} (s used q r : List Lexeme) → s ≡ used ++ q
    → ((u : List Lexeme) → Continues g u → Continues h (used ++ u)) → GoesPast g q r → GoesPast h s r
past_behind {X} {Y} {g} {h} s used q r parts more p = record {
  used = used ++ p.used;
  parts = joined s used q p.used r parts p.parts;
  first = p.first;
  others = p.others;
  at = p.at;
  continues =
      subst (Continues h) (sym (append_assoc used p.used (p.first ∷ []))) (more (p.used ++ p.first ∷ []) p.continues);
}

-- of equivalent grammars
pub lifted_alike : {X : Type 0} {lifts : TokenFault → Bool} {g g' h h' : Grammar X} → Alike g h → Alike g' h'
    → Lifted lifts h h' → Lifted lifts g g'
lifted_alike a a' b = record {
  takes = λ s x r e. takes_alike a' s x r (b.takes s x r (sym (a.read s) ∙ e));
  stays = λ s r f e kept. a'.read s ∙ b.stays s r f (sym (a.read s) ∙ e) kept;
  passes = λ s r f e lift. past_by s r (λ u. continues_alike u a') (b.passes s r f (sym (a.read s) ∙ e) lift);
}

-- the same grammar, where it meets no fault that is lifted
pub lifted_same : {X : Type 0} {lifts : TokenFault → Bool} {g : Grammar X} {f m : Set} {n : Bool} → Good g f n m
    → ((s r : List Lexeme) (d : TokenFault) → g.reads s ≡ Err (d, r) → lifts d ≡ false) → Lifted lifts g g
lifted_same a kept = record {
  takes = a.takes;
  stays = λ s r d e k. e;
  passes = λ s r d e lift. let bad = sym (kept s r d e) ∙ lift in absurd cc;
}

-- ---- one token, and none

-- one of a set has no fault but Expected
one_of_expects : (set : Set) (s r : List Lexeme) (d : TokenFault) → (one_of set).reads s ≡ Err (d, r) → faults.Expected ≡ d
unfolding one_of
one_of_expects set [] r d e = (stopped_is {X = Lexeme} faults.Expected d [] r e).fault
one_of_expects set (t ∷ s) r d e =
    elim (cases_Bool (set t.kind)) [
      | inl there ↦ absurd (let bad = rw there at e in cc)
      | inr away ↦ (stopped_is {X = Lexeme} faults.Expected d (t ∷ s) r (rw away at e)).fault
    ]

-- nor has one of a kind
token_expects : (k : Kind) (s r : List Lexeme) (d : TokenFault) → (token k).reads s ≡ Err (d, r) → faults.Expected ≡ d
unfolding token one_of
token_expects k [] r d e = one_of_expects (is k) [] r d e
token_expects k (t ∷ s) r d e = one_of_expects (is k) (t ∷ s) r d e

-- one of a set has no limit
pub lifted_one_of : {lifts : TokenFault → Bool} → lifts faults.Expected ≡ false → (set : Set)
    → Lifted lifts (one_of set) (one_of set)
lifted_one_of {lifts} kept set =
    lifted_same (good_one_of set) (λ s r d e. ap lifts (sym (one_of_expects set s r d e)) ∙ kept)

-- and has a spelling
pub eased_one_of : {lifts : TokenFault → Bool} → lifts faults.Expected ≡ false → (set : Set) (k : Kind) → set k ≡ true
    → Eased lifts (one_of set) (one_of set)
eased_one_of kept set k there = record { lifted = lifted_one_of kept set; sample = sample_one_of set k there }

-- one of a kind has no limit
pub lifted_token : {lifts : TokenFault → Bool} → lifts faults.Expected ≡ false → (k : Kind)
    → Lifted lifts (token k) (token k)
lifted_token {lifts} kept k = lifted_same (good_token k) (λ s r d e. ap lifts (sym (token_expects k s r d e)) ∙ kept)

-- and has a spelling
pub eased_token : {lifts : TokenFault → Bool} → lifts faults.Expected ≡ false → (k : Kind) → Eased lifts (token k) (token k)
eased_token kept k = record { lifted = lifted_token kept k; sample = sample_token k }

-- nothing has no limit, and has a spelling
pub eased_give : {X : Type 0} {lifts : TokenFault → Bool} (x : X) → Eased lifts (give x) (give x)
eased_give x = record { lifted = lifted_same (good_give x) (λ s r d e. absurd cc); sample = sample_give x }

-- ---- one after the other

-- where the first need not have a spelling
pub lifted_then : {X Y : Type 0} {lifts : TokenFault → Bool} {g g' : Grammar X} {h h' : X → Grammar Y}
    → Lifted lifts g g' → ((x : X) → Eased lifts (h x) (h' x)) → Lifted lifts (g >>= h) (g' >>= h')
lifted_then {X} {Y} {lifts} {g} {g'} {h} {h'} a b = record {
  takes = λ s y r e.
      let k = bind_ok (g.reads s) (λ x q. (h x).reads q) y r e in
      takes_both h' s k.x k.r y r (a.takes s k.x k.r k.first) ((b k.x).lifted.takes k.r y r k.second);
  stays = λ s r f e kept.
      elim (bind_err (g.reads s) (λ x q. (h x).reads q) (f, r) e) [
        | inl e1 ↦ rw (a.stays s r f e1 kept) refl
        | inr k ↦ rw (still_reads a s k.0 k.1 k.2) ((b k.0).lifted.stays k.1 r f k.3 kept)
      ];
  passes = λ s r f e lift.
      elim (bind_err (g.reads s) (λ x q. (h x).reads q) (f, r) e) [
        | inl e1 ↦ past_by s r (λ u c. then_begun u c (λ x. (b x).sample)) (a.passes s r f e1 lift)
        | inr k ↦
            let t = a.takes s k.0 k.1 k.2 in
            past_behind s t.used k.1 r t.parts (λ u. then_behind g' h' t.used u k.0 t.spelled)
            ((b k.0).lifted.passes k.1 r f k.3 lift)
      ];
}

-- where both have a spelling
pub eased_then : {X Y : Type 0} {lifts : TokenFault → Bool} {g g' : Grammar X} {h h' : X → Grammar Y}
    → Eased lifts g g' → ((x : X) → Eased lifts (h x) (h' x)) → Eased lifts (g >>= h) (g' >>= h')
eased_then a b = record { lifted = lifted_then a.lifted b; sample = sample_then a.sample (λ x. (b x).sample) }

-- ---- one or the other

-- where neither need have a spelling
pub lifted_either : {X : Type 0} {lifts : TokenFault → Bool} {g g' h h' : Grammar X} (set : Set)
    → Lifted lifts g g' → Lifted lifts h h' → Lifted lifts (either set g h) (either set g' h')
lifted_either {X} {lifts} {g} {g'} {h} {h'} set a b = record {
  takes = λ s x r e.
      elim (cases_Bool (heads set s)) [
        | inl left ↦ takes_left set s x r left (a.takes s x r (rw left at e))
        | inr right ↦ takes_right set s x r right (b.takes s x r (rw right at e))
      ];
  stays = λ s r f e kept.
      elim (cases_Bool (heads set s)) [
        | inl left ↦ rw left (a.stays s r f (rw left at e) kept)
        | inr right ↦ rw right (b.stays s r f (rw right at e) kept)
      ];
  passes = λ s r f e lift.
      elim (cases_Bool (heads set s)) [
        | inl left ↦ past_by s r (either_left set) (a.passes s r f (rw left at e) lift)
        | inr right ↦ past_by s r (either_right set) (b.passes s r f (rw right at e) lift)
      ];
}

-- where the second has a spelling
pub eased_either : {X : Type 0} {lifts : TokenFault → Bool} {g g' h h' : Grammar X} (set : Set)
    → Lifted lifts g g' → Eased lifts h h' → Eased lifts (either set g h) (either set g' h')
eased_either set a b = record {
  lifted = lifted_either set a b.lifted;
  sample = record { tokens = b.sample.tokens; value = b.sample.value; spelled = inr b.sample.spelled };
}

-- one or none
pub eased_optional : {X : Type 0} {lifts : TokenFault → Bool} {g g' : Grammar X} (set : Set) → Lifted lifts g g'
    → Eased lifts (optional set g) (optional set g')
eased_optional set a = eased_either set (lifted_then a (λ x. eased_give (Some x))) (eased_give None)
