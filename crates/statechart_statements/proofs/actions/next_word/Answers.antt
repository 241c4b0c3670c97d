use Rattle.std.proofs.Common.{sym, ◌∙◌}
use Rattle.token_grammar.specs.Token.{lexemes}
use Rattle.statechart_statements.specs.Words.{done_of}
use Rattle.statechart_statements.proofs.ActionLemmas.{word_misses}
use Rattle.statechart_statements.proofs.actions.next_word.Goals as goal

pub returns-else-is_at_word-clause-read : goal.returns-else-is_at_word-clause-read
returns-else-is_at_word-clause-read c =
    word_misses (done_of c.args.done) (lexemes c.args.reader.now.rest.now)
    (sym c.is_at_word.ensures ∙ c.if-is_at_word.false)
