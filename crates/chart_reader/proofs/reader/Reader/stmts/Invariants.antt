use Rattle.std.proofs.Common.{◌≡◌, length}
use Rattle.token_grammar.specs.Token.{lexemes}
use Rattle.token_grammar.specs.Grammar.{after}
use Rattle.chart_tree.specs.Views.{block_of}
use Rattle.chart_grammar.specs.Limits.{usual}
use Rattle.chart_grammar.specs.Transitions.{stmts, after_stmts}
use Rattle.chart_reader.specs.Counts.{counts_of}
use Rattle.chart_reader.proofs.reader.Reader.stmts.Given as goal

abbrev pub invariant-items : goal.invariant-items
invariant-items l = record {
  counts : counts_of l.self.counts ≡ after_stmts (counts_of l.fn.self.counts) (block_of l.found.items);
  so_far : after (block_of l.found.items)
      ((stmts usual (record { statements = l.before; counts = counts_of l.self.counts })).reads
      (lexemes l.self.rest.now))
      ≡ (stmts usual (record { statements = 0; counts = counts_of l.fn.self.counts })).reads
      (lexemes l.fn.self.rest.now);
}

abbrev pub decreases-items : goal.decreases-items
decreases-items l = length l.self.rest.now
