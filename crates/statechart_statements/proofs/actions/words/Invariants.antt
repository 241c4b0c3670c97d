use Rattle.std.proofs.Common.{◌≡◌, length, map}
use Rattle.token_grammar.specs.Token.{lexemes}
use Rattle.statechart_tree.specs.Views.{word_of}
use Rattle.statechart_tokens.proofs.FirstLoop.{kept}
use Rattle.statechart_statements.specs.Parts.{all_words}
use Rattle.statechart_statements.specs.Words.{done_of}
use Rattle.statechart_statements.proofs.WordLoop.{in_order, others}
use Rattle.statechart_statements.proofs.actions.words.Given as goal

abbrev pub invariant-items : goal.invariant-items
invariant-items l = record {
  counts : l.reader.counts ≡ l.fn.reader.counts;
  so_far : kept in_order (map word_of l.found.items) (others (done_of l.now) (lexemes l.reader.rest.now))
      ≡ (all_words (done_of l.fn.done) (word_of l.fn.first)).reads (lexemes l.fn.reader.rest.now);
}

abbrev pub decreases-items : goal.decreases-items
decreases-items l = length l.reader.rest.now
