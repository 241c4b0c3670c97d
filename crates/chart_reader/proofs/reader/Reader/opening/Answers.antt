use Rattle.std.proofs.Common.{sym}
use Rattle.token_grammar.specs.declared.token.Kind.TheVariants as kinds
use Rattle.token_grammar.specs.Token.{lexeme, lexemes, Gives}
use Rattle.chart_grammar.specs.Limits.{usual}
use Rattle.token_grammar.specs.Grammar.{is}
use Rattle.chart_grammar.specs.Expressions.{operator}
use Rattle.chart_reader.proofs.OperandLemmas.{operator_room}
use Rattle.chart_reader.proofs.RefusalLemmas.{keyword_read}
use Rattle.chart_reader.proofs.reader.Reader.opening.Goals as goal

pub returns-clause-read : goal.returns-clause-read
unfolding operator
returns-clause-read c =
    rw (
      sym c.one_more-refused.ensures,
      keyword_read kinds.OpenParen c.one_more-refused.result
          (lexemes c.args.self.now.rest.now),
    )
    c.allowed_token.ensures.read

pub returns-clause-room : goal.returns-clause-room
unfolding operator
returns-clause-room c =
    let read : Gives lexeme c.allowed_token.result (lexemes c.allowed_token.new.self.rest.now)
    ((operator usual (is kinds.OpenParen) c.args.before).reads (lexemes c.args.self.now.rest.now)) =
    rw (
      sym c.one_more-refused.ensures,
      keyword_read kinds.OpenParen c.one_more-refused.result
          (lexemes c.args.self.now.rest.now),
    )
    c.allowed_token.ensures.read in
    operator_room (is kinds.OpenParen) c.args.before (lexemes c.args.self.now.rest.now) _ _ read
