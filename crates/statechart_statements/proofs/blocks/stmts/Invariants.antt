use Rattle.std.proofs.Common.{◌≡◌, length}
use Rattle.token_grammar.specs.Token.{lexemes}
use Rattle.token_grammar.specs.Grammar.{after}
use Rattle.statechart_tree.specs.Views.{block_of}
use Rattle.chart_grammar.specs.Limits.{usual}
use Rattle.statechart_grammar.specs.Transitions.{stmts, after_stmts}
use Rattle.statechart_tokens.specs.Counts.{counts_of}
use Rattle.statechart_statements.proofs.blocks.stmts.Given as goal

abbrev pub invariant-items : goal.invariant-items
invariant-items l = record {
  counts : counts_of l.reader.counts ≡ after_stmts (counts_of l.fn.reader.counts) (block_of l.found.items);
  so_far : after (block_of l.found.items)
      ((stmts usual (record { statements = l.before; counts = counts_of l.reader.counts })).reads
      (lexemes l.reader.rest.now))
      ≡ (stmts usual (record { statements = 0; counts = counts_of l.fn.reader.counts })).reads
      (lexemes l.fn.reader.rest.now);
}

abbrev pub decreases-items : goal.decreases-items
decreases-items l = length l.reader.rest.now
