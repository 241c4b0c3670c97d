use Rattle.std.proofs.Common.{sym}
use Rattle.token_grammar.specs.Token.{lexemes}
use Rattle.statechart_tokens.proofs.RefusalLemmas.{keyword_read, keyword_room}
use Rattle.statechart_junctions.proofs.transitions.keyword.Goals as goal

pub returns-clause-read : goal.returns-clause-read
returns-clause-read c =
    rw (
      sym c.transition_refused-refused.ensures,
      keyword_read c.args.kind c.transition_refused-refused.result
          (lexemes c.args.reader.now.rest.now),
    )
    c.allowed_token.ensures.read

pub returns-clause-room : goal.returns-clause-room
returns-clause-room c =
    rw (sym c.transition_refused-refused.ensures)
    (keyword_room c.args.kind c.transition_refused-refused.result
    (lexemes c.args.reader.now.rest.now) _ _ c.allowed_token.ensures.read)
