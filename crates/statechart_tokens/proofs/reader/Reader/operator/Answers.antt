use Rattle.std.proofs.Common.{sym}
use Rattle.token_grammar.specs.Token.{lexeme, lexemes, Gives}
use Rattle.chart_grammar.specs.Limits.{usual}
use Rattle.chart_grammar.specs.Expressions.{operator}
use Rattle.statechart_tokens.specs.Groups.{set_of}
use Rattle.statechart_tokens.proofs.OperatorLemmas.{operator_room}
use Rattle.statechart_tokens.proofs.reader.Reader.operator.Goals as goal

pub returns-clause-room : goal.returns-clause-room
unfolding operator
returns-clause-room c =
    let read : Gives lexeme c.allowed_one_of.result (lexemes c.allowed_one_of.new.self.rest.now)
    ((operator usual (set_of c.args.group) c.args.before).reads (lexemes c.args.self.now.rest.now)) =
    rw (sym c.one_more-refused.ensures) c.allowed_one_of.ensures.read in
    operator_room (set_of c.args.group) c.args.before (lexemes c.args.self.now.rest.now) _ _ read
