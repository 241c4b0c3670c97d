use Rattle.std.proofs.Common.{◌≡◌, length, map}
use Rattle.flow_base.specs.declared.chart_limits.TheConstants.{STATE_DEPTH_LIMIT}
use Rattle.token_grammar.specs.Token.{lexemes}
use Rattle.chart_grammar.specs.Limits.{usual}
use Rattle.chart_grammar.specs.States.{nothing_seen, state, chart_items}
use Rattle.chart_reader.specs.Counts.{counts_of}
use Rattle.chart_reader.specs.Items.{item_of, seen_of}
use Rattle.chart_reader.specs.Told.{told}
use Rattle.chart_reader.proofs.ToldLoop.{behind}
use Rattle.chart_reader.proofs.reader.Reader.chart_items.Given as goal

abbrev pub invariant-items : goal.invariant-items
invariant-items l =
    behind (map item_of l.found.items)
    (told (counts_of l.self.counts)
    ((chart_items usual (state usual STATE_DEPTH_LIMIT) (seen_of l.seen (counts_of l.self.counts))).reads
    (lexemes l.self.rest.now)))
    ≡ told (counts_of l.fn.self.counts)
    ((chart_items usual (state usual STATE_DEPTH_LIMIT) (nothing_seen (counts_of l.fn.self.counts))).reads
    (lexemes l.fn.self.rest.now))

abbrev pub decreases-items : goal.decreases-items
decreases-items l = length l.self.rest.now
