use Rattle.std.proofs.lemmas.Result.{err_from_is_err_and}
use Rattle.token_grammar.specs.Token.{lexemes}
use Rattle.chart_tree.specs.Views.{path_of}
use Rattle.statechart_statements.proofs.TargetLemmas.{target_read, target_fails}
use Rattle.statechart_statements.proofs.statements.longer_target.Goals as goal

pub returns-in_err-target-clause-read : goal.returns-in_err-target-clause-read
returns-in_err-target-clause-read c =
    let p = err_from_is_err_and c.from_residual.result c.from_residual.ensures.1 in
    rw (p.1, p.2)
    (target_fails c.args.first c.in_err-target.field-0.0 (lexemes c.args.reader.now.rest.now) _
    c.in_err-target.ensures.read)

pub returns-clause-read : goal.returns-clause-read
returns-clause-read c =
    rw (target_read c.args.first (lexemes c.args.reader.now.rest.now) (path_of c.in_ok-target.target) _
    c.in_ok-target.ensures.read) c.target_stmt.ensures.read
