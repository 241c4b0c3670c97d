-- What was spelled where it may be missing, and where it was allowed.
use Rattle.std.proofs.Common.{◌≡◌, Bool, false, List, [], ◌∷◌, Option, None, inl, inr}
use Rattle.token_grammar.specs.declared.token.Kind.{Kind}
use Rattle.token_grammar.specs.declared.fault.TokenFault.{TokenFault}
use Rattle.token_grammar.specs.Token.{Lexeme}
use Rattle.token_grammar.specs.Grammar.{Grammar, optional, first_refused}
use Rattle.token_grammar.proofs.Good.{Begins}
use Rattle.canonical_text.specs.Terms.{IfThere}
use Rattle.canonical_text.specs.Claims.{AreCut}
use Rattle.canonical_text.proofs.Cut.{cut_first}

-- what may be missing has it where what is there does
pub optional_has : {X : Type 0} (P : X → Type 0) (set : Kind → Bool) (g : Grammar X) (u : List Lexeme) (x : Option X)
    → AreCut u
    → ((v : List Lexeme) (y : X) → AreCut v → g.spells v y → P y) → (optional set g).spells u x → IfThere P x
optional_has P set g u x cut has (inl s) = rw s.second.1 (has s.p s.x (cut_first s cut) s.first)
optional_has P set g u x cut has (inr s) = rw s.1 (record {})

-- a test that says the same of each token refused none, where the first token is one that it looks at
pub was_allowed : (set : Kind → Bool) (said : Option TokenFault) (u : List Lexeme) → Begins set false u
    → first_refused set (λ t. said) u ≡ None → said ≡ None
was_allowed set said [] begins passes = absurd cc
was_allowed set said (t ∷ u) begins passes = rw begins at passes
