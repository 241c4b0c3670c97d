use Rattle.std.proofs.Common.{◌≡◌, ◌+◌, ◌*◌, length, map}
use Rattle.token_grammar.specs.Token.{lexemes}
use Rattle.chart_grammar.specs.Limits.{usual}
use Rattle.chart_grammar.specs.States.{nothing_seen, state, items}
use Rattle.chart_reader.specs.Counts.{counts_of}
use Rattle.chart_reader.specs.Items.{item_of, seen_of}
use Rattle.chart_reader.specs.Told.{told}
use Rattle.chart_reader.proofs.ToldLoop.{behind}
use Rattle.chart_reader.proofs.reader.Reader.+state.Given as goal

abbrev pub decreases-state : goal.decreases-state
decreases-state l = 8 * l.depth

abbrev pub decreases-state_item : goal.decreases-state_item
decreases-state_item l = 8 * l.depth + 1

abbrev pub decreases-item : goal.decreases-item
decreases-item l = 8 * l.depth + 2

abbrev pub decreases-items : goal.decreases-items
decreases-items l = 8 * l.depth + 3

abbrev pub decreases-state_body : goal.decreases-state_body
decreases-state_body l = 8 * l.depth + 4

abbrev pub decreases-state_over : goal.decreases-state_over
decreases-state_over l = 8 * l.depth + 5

abbrev pub invariant-items-items : goal.invariant-items-items
invariant-items-items l =
    behind (map item_of l.found.items)
    (told (counts_of l.self.counts)
    ((items usual (state usual l.depth) (seen_of l.seen (counts_of l.self.counts))).reads
    (lexemes l.self.rest.now)))
    ≡ told (counts_of l.fn.self.counts)
    ((items usual (state usual l.depth) (nothing_seen (counts_of l.fn.self.counts))).reads
    (lexemes l.fn.self.rest.now))

abbrev pub decreases-items-items : goal.decreases-items-items
decreases-items-items l = length l.self.rest.now
