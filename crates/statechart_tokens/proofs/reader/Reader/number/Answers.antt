use Rattle.std.proofs.Common.{sym, ◌∙◌}
use Rattle.std.proofs.lemmas.Result.{err_from_is_err_and}
use Rattle.token_grammar.specs.Token.{lexeme, lexemes}
use Rattle.statechart_tokens.proofs.NumberLemmas.{number_fails, number_given, literal_given}
use Rattle.statechart_tokens.proofs.reader.Reader.number.Goals as goal

pub returns-in-Err-clause-read : goal.returns-in-Err-clause-read
returns-in-Err-clause-read c =
    number_fails (lexemes c.args.self.now.rest.now) c.in-Err.fault (sym c.literal_at_hand.ensures ∙ c.in-Err.is)

pub returns-in_err-token-in-Ok-clause-read : goal.returns-in_err-token-in-Ok-clause-read
returns-in_err-token-in-Ok-clause-read c =
    let p = err_from_is_err_and c.from_residual.result c.from_residual.ensures.1 in
    rw (
      p.1,
      p.2,
      number_given (lexemes c.args.self.now.rest.now) c.in-Ok.lit (sym c.literal_at_hand.ensures ∙ c.in-Ok.is),
    )
    c.in_err-token-in-Ok.ensures.read

pub returns-in_ok-token-in-Ok-clause-read : goal.returns-in_ok-token-in-Ok-clause-read
returns-in_ok-token-in-Ok-clause-read c =
    rw (number_given (lexemes c.args.self.now.rest.now) c.in-Ok.lit (sym c.literal_at_hand.ensures ∙ c.in-Ok.is))
    c.in_ok-token-in-Ok.ensures.read

pub returns-in_ok-token-in-Ok-clause-literal : goal.returns-in_ok-token-in-Ok-clause-literal
returns-in_ok-token-in-Ok-clause-literal c =
    literal_given (lexemes c.args.self.now.rest.now) _ (lexeme c.in_ok-token-in-Ok.token) c.in-Ok.lit
    (sym c.literal_at_hand.ensures ∙ c.in-Ok.is) c.in_ok-token-in-Ok.ensures.read
