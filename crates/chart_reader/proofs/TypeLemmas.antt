-- A word that names a type.
use Rattle.std.proofs.Common.{◌≡◌, List, [], ◌∷◌, Option, Some, None, Ok, Err, inl, inr, refl, ap, ◌∙◌}
use Rattle.std.proofs.lemmas.Bool.{cases_Bool}
use Rattle.token_grammar.specs.declared.token.Kind.TheVariants as kinds
use Rattle.token_grammar.specs.declared.fault.TokenFault.TheVariants as faults
use Rattle.token_grammar.specs.declared.fault.ReadError.{ReadError}
use Rattle.token_grammar.specs.declared.fault.ReadError.TheVariants as errors
use Rattle.token_grammar.specs.Token.{Lexeme, kind_eq, Outcome, Fails}
use Rattle.token_grammar.specs.Grammar.{token}
use Rattle.chart_grammar.specs.Types.{TypeWord, named_type, type_name}
use Rattle.chart_reader.specs.Types.{first_type}

-- the rest of what was read
abbrev rest_or : {X : Type 0} → List Lexeme → Outcome X → List Lexeme
rest_or d (Ok p) = p.1
rest_or d (Err e) = d

-- reading takes it
pub type_taken : (s r : List Lexeme) (t : Lexeme) (word : TypeWord) → first_type s ≡ Some word
    → (token kinds.Name).reads s ≡ Ok (t, r)
    → type_name.reads s ≡ Ok (word, r)
unfolding token type_name
type_taken [] r t word named e = absurd cc
type_taken (u ∷ s) r t word named e =
    elim (cases_Bool (kind_eq u.kind kinds.Name)) [
      | inl is_so ↦
          let read = rw is_so at e in
          let same : s ≡ r = ap (rest_or s) read in
          rw (is_so, named)
          (ap (λ (w : Option TypeWord). Ok (named_type w, s)) named ∙ ap (λ (q : List Lexeme). Ok (word, q)) same)
      | inr not_so ↦ let read = rw not_so at e in absurd cc
    ]

-- where it isn't a token of kind Name, reading stops
pub type_fails : (err : ReadError) (s r : List Lexeme) (word : TypeWord) → first_type s ≡ Some word
    → Fails err r ((token kinds.Name).reads s)
    → Fails err r (type_name.reads s)
unfolding token type_name
type_fails errors.Memory s r word named e = tt
type_fails (errors.Fault f) [] r word named e = cc
type_fails (errors.Fault f) (u ∷ s) r word named e =
    elim (cases_Bool (kind_eq u.kind kinds.Name)) [
      | inl is_so ↦ let read = rw is_so at e in absurd cc
      | inr not_so ↦ let read = rw not_so at e in rw not_so cc
    ]

-- any other is refused
pub type_none : (s : List Lexeme) → first_type s ≡ None → type_name.reads s ≡ Err (faults.Expected, s)
unfolding token type_name
type_none [] none = refl
type_none (u ∷ s) none =
    elim (cases_Bool (kind_eq u.kind kinds.Name)) [
      | inl is_so ↦ rw (is_so, none) refl
      | inr not_so ↦ rw not_so refl
    ]
