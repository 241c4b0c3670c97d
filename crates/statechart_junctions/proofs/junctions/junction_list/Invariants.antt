use Rattle.std.proofs.Common.{◌≡◌, length, map}
use Rattle.token_grammar.specs.Token.{lexemes}
use Rattle.statechart_tree.specs.Views.{trans_of}
use Rattle.chart_grammar.specs.Limits.{usual}
use Rattle.statechart_grammar.specs.States.{junction_list}
use Rattle.statechart_tokens.specs.Counts.{counts_of}
use Rattle.statechart_junctions.specs.Told.{told}
use Rattle.statechart_junctions.proofs.ToldLoop.{behind}
use Rattle.statechart_junctions.proofs.junctions.junction_list.Given as goal

abbrev pub invariant-items : goal.invariant-items
invariant-items l =
    behind (map trans_of l.found.items)
    (told (counts_of l.reader.counts) ((junction_list usual (counts_of l.reader.counts)).reads (lexemes l.reader.rest.now)))
    ≡ told (counts_of l.initial.reader.counts)
    ((junction_list usual (counts_of l.initial.reader.counts)).reads (lexemes l.initial.reader.rest.now))

abbrev pub decreases-items : goal.decreases-items
decreases-items l = length l.reader.rest.now
