-- A first token that was taken wasn't refused.
use Rattle.std.proofs.Common.{◌≡◌, Bool, List, [], ◌∷◌, Option, Some, None, Ok, inl, inr, refl}
use Rattle.std.proofs.lemmas.Bool.{cases_Bool}
use Rattle.token_grammar.specs.declared.token.Kind.{Kind}
use Rattle.token_grammar.specs.declared.fault.TokenFault.{TokenFault}
use Rattle.token_grammar.specs.Token.{Lexeme, kind_eq}
use Rattle.token_grammar.specs.Grammar.{is, token, one_of, allowed}

-- one of a kind
pub token_allowed : (k : Kind) (refused : Option TokenFault) (s r : List Lexeme) (t : Lexeme)
    → (allowed (is k) (λ t. refused) (token k)).reads s ≡ Ok (t, r) → refused ≡ None
unfolding token
token_allowed k None s r t e = refl
token_allowed k (Some f) [] r t e = absurd cc
token_allowed k (Some f) (u ∷ s) r t e =
    elim (cases_Bool (kind_eq u.kind k)) [
      | inl is_so ↦ let read = rw is_so at e in absurd cc
      | inr not_so ↦ let read = rw not_so at e in absurd cc
    ]

-- one of a set
pub one_allowed : (set : Kind → Bool) (refused : Option TokenFault) (s r : List Lexeme) (t : Lexeme)
    → (allowed set (λ t. refused) (one_of set)).reads s ≡ Ok (t, r) → refused ≡ None
unfolding one_of
one_allowed set None s r t e = refl
one_allowed set (Some f) [] r t e = absurd cc
one_allowed set (Some f) (u ∷ s) r t e =
    elim (cases_Bool (set u.kind)) [
      | inl is_so ↦ let read = rw is_so at e in absurd cc
      | inr not_so ↦ let read = rw not_so at e in absurd cc
    ]
