-- The reading of a whole text under limits, and with some of them lifted.
use Rattle.std.proofs.Common.{◌≡◌, Bool, true, false, List, [], ◌∷◌, ◌++◌, Err, refl, sym, ap, subst, ◌∙◌, inl, inr}
use Rattle.std.proofs.lemmas.List.{append_cancel_right}
use Rattle.token_grammar.specs.declared.fault.TokenFault.{TokenFault}
use Rattle.token_grammar.specs.declared.fault.TokenFault.TheVariants as faults
use Rattle.token_grammar.specs.Token.{Lexeme}
use Rattle.token_grammar.specs.Grammar.{Grammar, Continues, FirstFault, ended, whole_reads}
use Rattle.token_grammar.proofs.Good.{Set, bind_err, stopped_is}
use Rattle.token_grammar.proofs.Fine.{Fine}
use Rattle.token_grammar.proofs.Faults.{whole_fault}
use Rattle.token_grammar.proofs.Lifted.{Lifted, GoesPast, still_reads}

-- by a fault that is lifted, the text stops at a token that goes on
pub whole_past : {X : Type 0} {lifts : TokenFault → Bool} {g g' : Grammar X} → Lifted lifts g g'
    → lifts faults.Expected ≡ false
    → (s r : List Lexeme) (d : TokenFault) → whole_reads g s ≡ Err (d, r) → lifts d ≡ true → GoesPast g' s r
whole_past {X} {lifts} {g} a expected s r d e lift =
    elim (bind_err (g.reads s) ended (d, r) e) [
      | inl stop ↦ a.passes s r d stop lift
      | inr k ↦ absurd (left_over k.0 k.1 k.3)
    ]
  where
    left_over : (y : X) (q : List Lexeme) → ended y q ≡ Err (d, r) → ⊥
    left_over y [] h = cc
    left_over y (t ∷ q) h =
        let same = (stopped_is {X = X} faults.Expected d (t ∷ q) r h).fault in
        let bad = sym expected ∙ ap lifts same ∙ lift in
        cc

-- what stands before that token continues with it
pub past_at : {X : Type 0} {g : Grammar X} (s before : List Lexeme) (t : Lexeme) (q : List Lexeme)
    → s ≡ before ++ t ∷ q → GoesPast g s (t ∷ q)
    → Continues g (before ++ t ∷ [])
past_at {X} {g} s before t q parts p =
    let front : before ≡ p.used = append_cancel_right before p.used (t ∷ q) (sym parts ∙ p.parts) in
    subst (λ (z : Lexeme). Continues g (before ++ z ∷ [])) (sym (head_is t p.first q p.others p.at))
    (subst (λ (u : List Lexeme). Continues g (u ++ p.first ∷ [])) (sym front) p.continues)
  where
    head_is : (a b : Lexeme) (q q' : List Lexeme) → a ∷ q ≡ b ∷ q' → a ≡ b
    head_is a b q q' h = cc

-- a text that a lifted fault stops continues with the token at which it stops
pub whole_lifted : {X : Type 0} {lifts : TokenFault → Bool} {g g' : Grammar X} → Lifted lifts g g'
    → lifts faults.Expected ≡ false
    → (s before : List Lexeme) (t : Lexeme) (q : List Lexeme) (d : TokenFault) → s ≡ before ++ t ∷ q
    → whole_reads g s ≡ Err (d, t ∷ q) → lifts d ≡ true
    → Continues g' (before ++ t ∷ [])
whole_lifted a expected s before t q d parts e lift =
    past_at s before t q parts (whole_past a expected s (t ∷ q) d e lift)

-- a text that ends too early isn't stopped by a fault that is lifted
pub whole_ends : {X : Type 0} {lifts : TokenFault → Bool} {g g' : Grammar X} → Lifted lifts g g'
    → lifts faults.Expected ≡ false
    → (s : List Lexeme) (d : TokenFault) → whole_reads g s ≡ Err (d, []) → lifts d ≡ true → ⊥
whole_ends a expected s d e lift = let p = whole_past a expected s [] d e lift in let bad = p.at in cc

-- by another fault, it stops there without the limits too
pub whole_stays : {X : Type 0} {lifts : TokenFault → Bool} {g g' : Grammar X} → Lifted lifts g g'
    → (s r : List Lexeme) (d : TokenFault) → whole_reads g s ≡ Err (d, r) → lifts d ≡ false → whole_reads g' s ≡ Err (d, r)
whole_stays {X} {lifts} {g} a s r d e kept =
    elim (bind_err (g.reads s) ended (d, r) e) [
      | inl stop ↦ rw (a.stays s r d stop kept) refl
      | inr k ↦ rw (still_reads a s k.0 k.1 k.2) k.3
    ]

-- and there the token is the first that doesn't continue
pub whole_kept : {X : Type 0} {lifts : TokenFault → Bool} {g g' : Grammar X} {f m : Set} {n : Bool} → Lifted lifts g g'
    → Fine g' f n m
    → (s r : List Lexeme) (d : TokenFault) → whole_reads g s ≡ Err (d, r) → lifts d ≡ false → FirstFault g' s r
whole_kept a fine s r d e kept = whole_fault fine s r d (whole_stays a s r d e kept)
