-- The reading of what is no spelling: it stops at the first token that doesn't continue, so that what was read is a
-- correct prefix.
use Rattle.std.proofs.Common.{◌≡◌, Bool, List, [], ◌∷◌, ◌++◌, Ok, Err, refl, sym, subst, ◌∙◌, append_assoc, inl, inr}
use Rattle.std.proofs.lemmas.List.{append-nil}
use Rattle.token_grammar.specs.declared.fault.TokenFault.{TokenFault}
use Rattle.token_grammar.specs.declared.fault.TokenFault.TheVariants as faults
use Rattle.token_grammar.specs.Token.{Lexeme}
use Rattle.token_grammar.specs.Grammar.{Grammar, Continues, FirstFault, ended, whole_reads}
use Rattle.token_grammar.proofs.Good.{Set, Good, Takes, done_is, bind_ok, bind_err, stopped_is, surely}
use Rattle.token_grammar.proofs.Fine.{Fine}

-- a spelling of the whole is read, and nothing is left
pub all_read : {X : Type 0} {g : Grammar X} {f m : Set} {n : Bool} → Good g f n m → (u : List Lexeme) (x : X)
    → g.spells u x → g.reads u ≡ Ok (x, [])
all_read {X} {g} a u x h = subst (λ v. g.reads v ≡ Ok (x, [])) (append-nil u) (a.again u x [] h refl)

-- what continues with a token is read, when its end follows
read_through : {X : Type 0} {g : Grammar X} {f m : Set} {n : Bool} → Good g f n m
    → (u : List Lexeme) (t : Lexeme) (c : Continues g (u ++ t ∷ []))
    → g.reads (u ++ t ∷ c.rest) ≡ Ok (c.value, [])
read_through {X} {g} a u t c =
    subst (λ v. g.reads v ≡ Ok (c.value, [])) (append_assoc u (t ∷ []) c.rest)
    (all_read a ((u ++ t ∷ []) ++ c.rest) c.value c.spelled)

-- where reading stops, by whatever fault
pub fault_at_stop : {X : Type 0} {g : Grammar X} {f m : Set} {n : Bool} → Fine g f n m
    → (s r : List Lexeme) (d : TokenFault) → g.reads s ≡ Err (d, r)
    → FirstFault g s r
fault_at_stop {X} {g} a s r d e =
    let t = a.good.stops s r d e in
    record {
      before = t.used;
      parts = t.parts;
      continues = surely t.used a.sample t.continues;
      unfinished = λ x h. let bad = sym (all_read a.good s x h) ∙ e in cc;
      ends = λ tok q h c. let bad = sym (read_through a.good t.used tok c) ∙ t.same (tok ∷ c.rest) (rw h refl) in cc;
    }

-- after what was read
pub fault_after : {X : Type 0} {g : Grammar X} {f m : Set} {n : Bool} → Good g f n m
    → (s : List Lexeme) (x : X) (tok : Lexeme) (q : List Lexeme)
    → g.reads s ≡ Ok (x, tok ∷ q) → FirstFault g s (tok ∷ q)
fault_after {X} {g} a s x tok q e =
    let t = a.takes s x (tok ∷ q) e in
    record {
      before = t.used;
      parts = t.parts;
      continues = record { rest = []; value = x; spelled = rw append-nil t.spelled };
      unfinished = λ y h. let bad = (done_is y x [] (tok ∷ q) (sym (all_read a s y h) ∙ e)).rest in cc;
      ends = λ tok' q' h c.
          let read = t.same (tok' ∷ c.rest) (head_is tok tok' q q' h) in
          let bad = (done_is c.value x [] (tok' ∷ c.rest) (sym (read_through a t.used tok' c) ∙ read)).rest in
          cc;
    }
  where
    head_is : (a b : Lexeme) (q q' : List Lexeme) → a ∷ q ≡ b ∷ q' → a ≡ b
    head_is a b q q' h = cc

-- ---- a whole text

-- what is read is spelled so
pub whole_found : {X : Type 0} {g : Grammar X} {f m : Set} {n : Bool} → Good g f n m
    → (s : List Lexeme) (x : X) (r : List Lexeme)
    → whole_reads g s ≡ Ok (x, r) → g.spells s x
whole_found {X} {g} a s x r e =
    let k = bind_ok (g.reads s) ended x r e in
    nothing_left k.x k.r k.second (a.takes s k.x k.r k.first)
  where
    nothing_left : (y : X) (q : List Lexeme) → ended y q ≡ Ok (x, r) → Takes g s y q → g.spells s x
    nothing_left y [] e t =
        let d = done_is y x [] r e in
        let whole : s ≡ t.used = t.parts ∙ append-nil t.used in
        subst (λ z. g.spells s z) d.value (subst (λ u. g.spells u y) (sym whole) t.spelled)
    nothing_left y (tok ∷ q) e t = absurd cc

-- what is spelled is read
pub whole_only : {X : Type 0} {g : Grammar X} {f m : Set} {n : Bool} → Good g f n m → (s : List Lexeme) (x : X)
    → g.spells s x
    → whole_reads g s ≡ Ok (x, [])
whole_only a s x h = rw (all_read a s x h) refl

-- where it isn't read, the fault is the first
pub whole_fault : {X : Type 0} {g : Grammar X} {f m : Set} {n : Bool} → Fine g f n m → (s r : List Lexeme) (d : TokenFault)
    → whole_reads g s ≡ Err (d, r)
    → FirstFault g s r
whole_fault {X} {g} a s r d e =
    elim (bind_err (g.reads s) ended (d, r) e) [
      | inl stop ↦ fault_at_stop a s r d stop
      | inr k ↦ left_over k.0 k.1 k.2 k.3
    ]
  where
    left_over : (y : X) (q : List Lexeme) → g.reads s ≡ Ok (y, q) → ended y q ≡ Err (d, r) → FirstFault g s r
    left_over y [] h e = absurd cc
    left_over y (tok ∷ q) h e =
        let same : tok ∷ q ≡ r = (stopped_is {X = X} faults.Expected d (tok ∷ q) r e).rest in
        subst (λ z. FirstFault g s z) same (fault_after a.good s y tok q h)
