use Rattle.std.proofs.Common.{◌≡◌, length, map}
use Rattle.token_grammar.specs.Token.{lexemes}
use Rattle.chart_tree.specs.Views.{trans_of}
use Rattle.chart_grammar.specs.Limits.{usual}
use Rattle.chart_grammar.specs.States.{junction_list}
use Rattle.chart_reader.specs.Counts.{counts_of}
use Rattle.chart_reader.specs.Told.{told}
use Rattle.chart_reader.proofs.ToldLoop.{behind}
use Rattle.chart_reader.proofs.reader.Reader.junction_list.Given as goal

abbrev pub invariant-items : goal.invariant-items
invariant-items l =
    behind (map trans_of l.found.items)
    (told (counts_of l.self.counts) ((junction_list usual (counts_of l.self.counts)).reads (lexemes l.self.rest.now)))
    ≡ told (counts_of l.initial.self.counts)
    ((junction_list usual (counts_of l.initial.self.counts)).reads (lexemes l.initial.self.rest.now))

abbrev pub decreases-items : goal.decreases-items
decreases-items l = length l.self.rest.now
