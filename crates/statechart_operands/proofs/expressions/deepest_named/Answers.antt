use Rattle.std.proofs.Common.{sym, ◌∙◌}
use Rattle.std.proofs.lemmas.Result.{err_from_is_err_and}
use Rattle.token_grammar.specs.Token.{lexemes}
use Rattle.statechart_operands.proofs.NestLemmas.{deepest_call, deepest_datum, deepest_unnamed}
use Rattle.statechart_operands.proofs.expressions.deepest_named.Goals as goal

pub returns-in_err-first-clause-read : goal.returns-in_err-first-clause-read
returns-in_err-first-clause-read c =
    let p = err_from_is_err_and c.from_residual.result c.from_residual.ensures.1 in
    rw (p.1, p.2)
    (deepest_unnamed c.args.before c.in_err-first.field-0.0 (lexemes c.args.reader.now.rest.now) _
    c.in_err-first.ensures.read)

pub returns-then-is_at-clause-read : goal.returns-then-is_at-clause-read
returns-then-is_at-clause-read c =
    deepest_call c.args.before (lexemes c.args.reader.now.rest.now) c.in_ok-first.first _ c.in_ok-first.ensures.read
    (sym c.is_at.ensures ∙ c.if-is_at.true)

pub returns-clause-read : goal.returns-clause-read
returns-clause-read c =
    rw (deepest_datum c.args.before (lexemes c.args.reader.now.rest.now) c.in_ok-first.first _
    c.in_ok-first.ensures.read (sym c.is_at.ensures ∙ c.if-is_at.false)) c.datum.ensures.read
