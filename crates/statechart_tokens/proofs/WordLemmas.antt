-- Tokens that are read as names are names.
use Rattle.std.proofs.Common.{◌≡◌, true, not, ◌||◌, List, [], ◌∷◌, Ok, Err, inl, inr, sym, ap}
use Rattle.std.specs.List.{list_all}
use Rattle.std.proofs.lemmas.Bool.{and_parts, cases_Bool}
use Rattle.token_grammar.specs.declared.token.Kind.TheVariants as kinds
use Rattle.token_grammar.specs.Token.{Lexeme, kind_eq, Outcome}
use Rattle.token_grammar.specs.Grammar.{token}
use Rattle.chart_lexer.specs.Words.{is_name}
use Rattle.statechart_tokens.specs.Named.{is_named, AreNamed}

-- the value of what was read
abbrev pub value_or : {X : Type 0} → X → Outcome X → X
value_or d (Ok p) = p.0
value_or d (Err e) = d

-- the first of named tokens is named
first_named : (t : Lexeme) (s : List Lexeme) → AreNamed (t ∷ s) → kind_eq t.kind kinds.Name ≡ true
    → is_name t.text ≡ true
first_named t s named e =
    let first : (not (kind_eq t.kind kinds.Name) || is_name t.text) ≡ true =
    (and_parts (is_named t) (list_all is_named s) named).0 in
    rw e at first

-- a token that was read as a name has one as its text
pub token_named : (s r : List Lexeme) (t : Lexeme) → AreNamed s → (token kinds.Name).reads s ≡ Ok (t, r)
    → is_name t.text ≡ true
unfolding token
token_named [] r t named e = absurd cc
token_named (u ∷ s) r t named e =
    elim (cases_Bool (kind_eq u.kind kinds.Name)) [
      | inl is_so ↦
          let read = rw is_so at e in
          let same : u ≡ t = ap (value_or u) read in
          rw (sym same) (first_named u s named is_so)
      | inr not_so ↦ let read = rw not_so at e in absurd cc
    ]
