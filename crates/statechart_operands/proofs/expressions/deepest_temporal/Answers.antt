use Rattle.std.proofs.Common.{true}
use Rattle.std.proofs.lemmas.Result.{err_from_is_err_and}
use Rattle.token_grammar.specs.Token.{lexeme, lexemes}
use Rattle.chart_grammar.specs.Limits.{usual}
use Rattle.statechart_grammar.specs.Expressions.{literal}
use Rattle.statechart_operands.proofs.NestLemmas.{deepest_counted, temporal_fails}
use Rattle.statechart_operands.proofs.expressions.deepest_temporal.Goals as goal

pub returns-in_err-token-clause-read : goal.returns-in_err-token-clause-read
returns-in_err-token-clause-read c =
    let p = err_from_is_err_and c.from_residual.result c.from_residual.ensures.1 in
    rw (p.1, p.2)
    (temporal_fails true (literal usual) c.args.before c.temporal_refused-refused.result c.in_err-token.field-0.0
    (lexemes c.args.reader.now.rest.now) _ c.temporal_refused-refused.ensures c.in_err-token.ensures.read)

pub returns-clause-read : goal.returns-clause-read
returns-clause-read c =
    rw (deepest_counted c.args.before c.temporal_refused-refused.result (lexemes c.args.reader.now.rest.now)
    (lexeme c.in_ok-token.token) _ c.temporal_refused-refused.ensures c.in_ok-token.ensures.read)
    c.counted.ensures.read
