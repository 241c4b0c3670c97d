-- Operators that were read.
use Rattle.std.proofs.Common.{◌≡◌, ℕ, ◌<◌, List, Ok, Err, Result, None, OnOk, arith}
use Rattle.flow_base.specs.declared.chart_limits.TheConstants.{OPERATOR_LIMIT}
use Rattle.token_grammar.specs.declared.token.Token.{Token}
use Rattle.token_grammar.specs.declared.fault.Thing.TheVariants as things
use Rattle.token_grammar.specs.declared.fault.ReadError.{ReadError}
use Rattle.token_grammar.specs.Token.{Lexeme, lexeme, Gives}
use Rattle.token_grammar.proofs.Good.{Set}
use Rattle.chart_grammar.specs.Limits.{usual, one_more}
use Rattle.chart_grammar.specs.Expressions.{operator}
use Rattle.statechart_tokens.proofs.RefusalLemmas.{one_of_room}

-- where one more isn't refused, there are few so far
few_operators : (before : ℕ) → one_more usual things.Operators before ≡ None → before < OPERATOR_LIMIT
few_operators before h = grind arith

-- an operator that was read is one of OPERATOR_LIMIT at most
pub operator_room : (set : Set) (before : ℕ) (s r : List Lexeme) (result : Result Token ReadError)
    → Gives lexeme result r ((operator usual set before).reads s) → OnOk result (before < OPERATOR_LIMIT)
unfolding operator
operator_room set before s r (Ok t) e = few_operators before (one_of_room set _ s r (Ok t) e)
operator_room set before s r (Err e) read = tt
