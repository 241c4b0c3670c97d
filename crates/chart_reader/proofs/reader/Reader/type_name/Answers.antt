use Rattle.std.proofs.Common.{sym}
use Rattle.std.proofs.lemmas.Result.{err_from_is_err_and}
use Rattle.token_grammar.specs.Token.{lexeme, lexemes}
use Rattle.chart_reader.specs.Types.{word_of}
use Rattle.chart_reader.proofs.TypeLemmas.{type_taken, type_fails, type_none}
use Rattle.chart_reader.proofs.reader.Reader.type_name.Goals as goal

pub returns-in_err-token-in-Some-clause-read : goal.returns-in_err-token-in-Some-clause-read
returns-in_err-token-in-Some-clause-read c =
    let p = err_from_is_err_and c.from_residual.result c.from_residual.ensures.1 in
    rw (p.1, p.2)
    (type_fails c.in_err-token-in-Some.field-0.0 (lexemes c.args.self.now.rest.now) _ (word_of c.in-Some.name)
    (sym c.in-Some.ensures) c.in_err-token-in-Some.ensures.read)

pub returns-in_ok-token-in-Some-clause-read : goal.returns-in_ok-token-in-Some-clause-read
returns-in_ok-token-in-Some-clause-read c =
    type_taken (lexemes c.args.self.now.rest.now) _ (lexeme c.in_ok-token-in-Some.field-0) (word_of c.in-Some.name)
    (sym c.in-Some.ensures) c.in_ok-token-in-Some.ensures.read

pub returns-in-None-clause-read : goal.returns-in-None-clause-read
returns-in-None-clause-read c = type_none (lexemes c.args.self.now.rest.now) (sym c.in-None.ensures)
