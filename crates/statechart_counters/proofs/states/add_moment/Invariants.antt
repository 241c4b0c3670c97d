use Rattle.std.proofs.Common.{◌≡◌, map, drop}
use Rattle.statechart_tree.specs.Views.{action_of}
use Rattle.statechart_counters.specs.Moments.{is_moment}
use Rattle.statechart_meaning.specs.Counting as spec
use Rattle.statechart_counters.specs.Seen.{counted_seen, gathered}
use Rattle.statechart_counters.proofs.states.add_moment.Given as goal

-- what is gathered so far, with what is left, is all
abbrev pub invariant-loop-action : goal.invariant-loop-action
invariant-loop-action l =
    gathered (map counted_seen l.counted.items)
    (spec.counted_block l.events (spec.blocks_with (is_moment l.moment) (map action_of (drop l.action-index l.actions))))
    ≡ gathered (map counted_seen l.fn.counted.items)
    (spec.counted_block l.events (spec.blocks_with (is_moment l.moment) (map action_of l.actions)))
