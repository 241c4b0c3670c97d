use Rattle.std.proofs.Common.{sym}
use Rattle.token_grammar.specs.Token.{lexemes}
use Rattle.chart_reader.proofs.RefusalLemmas.{keyword_read, keyword_room}
use Rattle.chart_reader.proofs.reader.Reader.keyword.Goals as goal

pub returns-clause-read : goal.returns-clause-read
returns-clause-read c =
    rw (
      sym c.transition_refused-refused.ensures,
      keyword_read c.args.kind c.transition_refused-refused.result
          (lexemes c.args.self.now.rest.now),
    )
    c.allowed_token.ensures.read

pub returns-clause-room : goal.returns-clause-room
returns-clause-room c =
    rw (sym c.transition_refused-refused.ensures)
    (keyword_room c.args.kind c.transition_refused-refused.result
    (lexemes c.args.self.now.rest.now) _ _ c.allowed_token.ensures.read)
