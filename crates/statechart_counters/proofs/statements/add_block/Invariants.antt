use Rattle.std.proofs.Common.{◌≡◌, map, drop}
use Rattle.statechart_tree.specs.Views.{stmt_of}
use Rattle.statechart_meaning.specs.Counting as spec
use Rattle.statechart_counters.specs.Seen.{counted_seen, gathered}
use Rattle.statechart_counters.proofs.statements.add_block.Given as goal

-- what is gathered so far, with what is left, is all
abbrev pub invariant-loop-stmt : goal.invariant-loop-stmt
invariant-loop-stmt l =
    gathered (map counted_seen l.counted.items) (spec.counted_block l.events (map stmt_of (drop l.stmt-index l.stmts)))
    ≡ gathered (map counted_seen l.fn.counted.items) (spec.counted_block l.events (map stmt_of l.stmts))
