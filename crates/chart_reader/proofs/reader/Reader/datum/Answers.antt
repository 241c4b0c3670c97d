use Rattle.std.proofs.lemmas.Result.{err_from_is_err_and}
use Rattle.token_grammar.specs.Token.{lexemes}
use Rattle.chart_reader.proofs.OperandLemmas.{datum_read, datum_fails}
use Rattle.chart_reader.proofs.reader.Reader.datum.Goals as goal

pub returns-in_err-name-clause-read : goal.returns-in_err-name-clause-read
returns-in_err-name-clause-read c =
    let p = err_from_is_err_and c.from_residual.result c.from_residual.ensures.1 in
    rw (p.1, p.2)
    (datum_fails c.args.before c.in_err-name.field-0.0
    (lexemes c.args.self.now.rest.now) _ c.in_err-name.ensures.read)

pub returns-clause-read : goal.returns-clause-read
returns-clause-read c = datum_read c.args.before (lexemes c.args.self.now.rest.now) _ _ c.in_ok-name.ensures.read
