use Rattle.std.proofs.Common.{◌≡◌, map, drop}
use Rattle.statechart_tree.specs.Views.{expr_of, row_of}
use Rattle.statechart_meaning.specs.Counting as spec
use Rattle.statechart_counters.specs.Seen.{counted_seen, gathered}
use Rattle.statechart_counters.proofs.expressions.+expressions.Given as goal

-- what is gathered so far, with what is left, is all
abbrev pub invariant-add_row-loop-e : goal.invariant-add_row-loop-e
invariant-add_row-loop-e l =
    gathered (map counted_seen l.counted.items) (spec.counted_row l.events (row_of (map expr_of (drop l.e-index l.es))))
    ≡ gathered (map counted_seen l.fn.counted.items) (spec.counted_row l.events (row_of (map expr_of l.es)))
