-- Which fault the first token has that doesn't continue a chart text.
use Rattle.std.specs.Prelude.{◌≢◌, ◌+◌, List, [], ◌∷◌, ◌++◌}
use Rattle.token_grammar.specs.declared.fault.TokenFault.{TokenFault}
use Rattle.token_grammar.specs.declared.fault.TokenFault.TheVariants as faults
use Rattle.token_grammar.specs.Token.{Lexeme}
use Rattle.token_grammar.specs.Grammar.{Continues}
use Rattle.chart_grammar.specs.Limits.{Limits, LiftedFrom, rank}
use Rattle.chart_grammar.specs.States.{chart}

-- after these tokens, the token doesn't continue even where all limits of higher rank than the
-- fault are lifted; and, unless the fault is Expected, it continues where the limit of the fault is
-- lifted too
pub record IsFaultOf (before : List Lexeme) (t : Lexeme) (fault : TokenFault) : Type 0 where
  pub stays : (l : Limits) → LiftedFrom (rank fault + 1) l
      → Continues (chart l) (before ++ t ∷ []) → ⊥
  pub lifted : fault ≢ faults.Expected → (l : Limits) → LiftedFrom (rank fault) l
      → Continues (chart l) (before ++ t ∷ [])
