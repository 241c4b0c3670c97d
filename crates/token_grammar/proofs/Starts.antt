-- FIRST, from both sides: each token of the set begins a spelling, and any other is Expected.
use Rattle.std.proofs.Common.{◌≡◌, Bool, true, false, List, [], ◌∷◌, Err, Option, Some, None, refl, inl, inr, ◌||◌}
use Rattle.std.proofs.lemmas.Bool.{cases_Bool}
use Rattle.token_grammar.specs.declared.token.Kind.{Kind}
use Rattle.token_grammar.specs.declared.fault.TokenFault.{TokenFault}
use Rattle.token_grammar.specs.declared.fault.TokenFault.TheVariants as faults
use Rattle.token_grammar.specs.Token.{Lexeme}
use Rattle.token_grammar.specs.Grammar.{Grammar, heads, is, token, one_of, ◌>>=◌, either}
use Rattle.token_grammar.specs.Grammar.{optional, first_refused, allowed, Continues}
use Rattle.token_grammar.proofs.Good.{Set, Sample, also, clear_left, clear_right}
use Rattle.token_grammar.proofs.Leaves.{sample_give}
use Rattle.token_grammar.proofs.Join.{then_begun, then_behind, either_left, either_right}
use Rattle.token_grammar.proofs.Allowed.{allowed_begun}

-- each token of the set begins a spelling
pub record Starts {X : Type 0} (set : Set) (g : Grammar X) : Type 0 where
  pub each : (t : Lexeme) → set t.kind ≡ true → Continues g (t ∷ [])

-- where no token of the set stands at hand, that is not what was expected
pub record Expects {X : Type 0} (set : Set) (g : Grammar X) : Type 0 where
  pub other : (s : List Lexeme) → heads set s ≡ false → g.reads s ≡ Err (faults.Expected, s)

-- ---- what begins a spelling

-- each token of the set is a spelling of one of it
pub starts_one_of : (set : Set) → Starts set (one_of set)
unfolding one_of
starts_one_of set = record { each = λ t there. record { rest = []; value = t; spelled = (refl, there) } }

-- a token of the kind is a spelling of one
pub starts_token : (k : Kind) → Starts (is k) (token k)
unfolding token
starts_token k = record { each = λ t there. record { rest = []; value = t; spelled = (refl, there) } }

-- what begins the first part begins the whole
pub starts_then : {X Y : Type 0} {set : Set} {g : Grammar X} {h : X → Grammar Y} → Starts set g
    → ((x : X) → Sample (h x)) → Starts set (g >>= h)
starts_then a samples = record { each = λ t there. then_begun (t ∷ []) (a.each t there) samples }

-- by which of two holds
or_cases : {A : Type 0} (a b : Bool) → (a || b) ≡ true → (a ≡ true → A) → (b ≡ true → A) → A
or_cases true b h f g = f refl
or_cases false b h f g = g h

-- what begins the first part, or where that may be empty the second, begins the whole
pub starts_also : {X Y : Type 0} {f1 f2 : Set} {g : Grammar X} {h : X → Grammar Y} (x : X) → g.spells [] x
    → Starts f1 g → Starts f2 (h x)
    → ((y : X) → Sample (h y)) → Starts (also f1 true f2) (g >>= h)
starts_also {X} {Y} {f1} {f2} {g} {h} x none a b samples = record {
  each = λ t there.
      or_cases (f1 t.kind) (f2 t.kind) there (λ l. then_begun (t ∷ []) (a.each t l) samples)
      (λ r. then_behind g h [] (t ∷ []) x none (b.each t r));
}

-- what begins the first of two
pub starts_left : {X : Type 0} {f : Set} {g h : Grammar X} (set : Set) → Starts f g → Starts f (either set g h)
starts_left set a = record { each = λ t there. either_left set (t ∷ []) (a.each t there) }

-- what begins the item begins one or none
pub starts_optional : {X : Type 0} {f : Set} {g : Grammar X} (set : Set) → Starts f g → Starts f (optional set g)
starts_optional set a = starts_left set (starts_then a (λ x. sample_give (Some x)))

-- what begins either begins the whole
pub starts_either : {X : Type 0} {f1 f2 : Set} {g h : Grammar X} (set : Set) → Starts f1 g → Starts f2 h
    → Starts (also f1 true f2) (either set g h)
starts_either {X} {f1} {f2} set a b = record {
  each = λ t there.
      or_cases (f1 t.kind) (f2 t.kind) there (λ l. either_left set (t ∷ []) (a.each t l))
      (λ r. either_right set (t ∷ []) (b.each t r));
}

-- where the test refuses no token of the set
pub starts_allowed : {X : Type 0} {g : Grammar X} (set : Set) (test : Lexeme → Option TokenFault) → Starts set g
    → ((t : Lexeme) → set t.kind ≡ true → test t ≡ None) → Starts set (allowed set test g)
starts_allowed set test a passes = record {
  each = λ t there. allowed_begun set test t [] (rw there (passes t there)) (a.each t there);
}

-- ---- what is expected

-- one of a set expects the set
pub expects_one_of : (set : Set) → Expects set (one_of set)
unfolding one_of
expects_one_of set = record { other = λ s. other s }
  where
    other : (s : List Lexeme) → heads set s ≡ false → (one_of set).reads s ≡ Err (faults.Expected, s)
    other [] h = refl
    other (t ∷ s) h = rw h refl

-- one of a kind expects the kind
pub expects_token : (k : Kind) → Expects (is k) (token k)
unfolding token
expects_token k = record { other = λ s. other s }
  where
    other : (s : List Lexeme) → heads (is k) s ≡ false → (token k).reads s ≡ Err (faults.Expected, s)
    other [] h = refl
    other (t ∷ s) h = rw h refl

-- the whole expects what the first part does
pub expects_then : {X Y : Type 0} {set : Set} {g : Grammar X} (h : X → Grammar Y) → Expects set g
    → Expects set (g >>= h)
expects_then h a = record { other = λ s away. rw (a.other s away) refl }

-- one or the other expects what either does
pub expects_either : {X : Type 0} {f1 f2 : Set} {g h : Grammar X} (set : Set) → Expects f1 g → Expects f2 h
    → Expects (also f1 true f2) (either set g h)
expects_either {X} {f1} {f2} set a b = record {
  other = λ s away.
      elim (cases_Bool (heads set s)) [
        | inl left ↦ rw left (a.other s (clear_left f1 f2 true s away))
        | inr right ↦ rw right (b.other s (clear_right f1 f2 true s away refl))
      ];
}

-- no token outside of the set is refused
pub not_refused : (set : Set) (test : Lexeme → Option TokenFault) (s : List Lexeme) → heads set s ≡ false
    → first_refused set test s ≡ None
not_refused set test [] away = refl
not_refused set test (t ∷ s) away = rw away refl

-- under a limit the same is expected
pub expects_allowed : {X : Type 0} {g : Grammar X} (set : Set) (test : Lexeme → Option TokenFault) → Expects set g
    → Expects set (allowed set test g)
expects_allowed set test a = record { other = λ s away. rw (not_refused set test s away) (a.other s away) }
