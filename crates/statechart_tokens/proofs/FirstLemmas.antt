-- What is said of the first of the tokens.
use Rattle.std.proofs.Common.{◌≡◌, ◌≤◌, Bool, true, false, List, [], ◌∷◌, length, get_or, Option, None, refl, ◌∙◌, sym, arith}
use Rattle.token_grammar.specs.declared.token.Token.{Token}
use Rattle.token_grammar.specs.declared.fault.TokenFault.{TokenFault}
use Rattle.token_grammar.specs.Token.{Lexeme, lexeme, lexemes}
use Rattle.token_grammar.specs.Grammar.{heads, first_refused}
use Rattle.token_grammar.proofs.Good.{Set}

-- of a token of the set the test says it
pub first_said : (ts : List Token) (d : Token) (set : Set) (test : Lexeme → Option TokenFault) (said : Option TokenFault)
    → 1 ≤ length ts → heads set (lexemes ts) ≡ true → said ≡ test (lexeme (get_or ts 0 d))
    → said ≡ first_refused set test (lexemes ts)
first_said [] d set test said long here e = absurd (omega arith)
first_said (t ∷ ts) d set test said long here e = e ∙ sym (rw here refl)

-- of any other nothing is said
pub none_said : (s : List Lexeme) (set : Set) (test : Lexeme → Option TokenFault) → heads set s ≡ false
    → None ≡ first_refused set test s
none_said [] set test h = refl
none_said (t ∷ s) set test h = rw h refl

-- a test that says nothing refuses none
pub never_refused : (set : Set) (s : List Lexeme) → first_refused set (λ t. None) s ≡ None
never_refused set [] = refl
never_refused set (t ∷ s) = by_kind (set t.kind) refl
  where
    by_kind : (b : Bool) → set t.kind ≡ b → first_refused set (λ t. None) (t ∷ s) ≡ None
    by_kind true h = rw h refl
    by_kind false h = rw h refl
