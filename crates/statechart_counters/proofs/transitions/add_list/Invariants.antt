use Rattle.std.proofs.Common.{◌≡◌, map, drop}
use Rattle.std.specs.List.{flat_map}
use Rattle.statechart_tree.specs.Views.{trans_of}
use Rattle.statechart_meaning.specs.Counting as spec
use Rattle.statechart_counters.specs.Seen.{counted_seen, gathered}
use Rattle.statechart_counters.proofs.transitions.add_list.Given as goal

-- what is gathered so far, with what is left, is all
abbrev pub invariant-loop-trans : goal.invariant-loop-trans
invariant-loop-trans l =
    gathered (map counted_seen l.counted.items) (flat_map (spec.counted_trans l.events) (map trans_of (drop l.trans-index l.list)))
    ≡ gathered (map counted_seen l.fn.counted.items) (flat_map (spec.counted_trans l.events) (map trans_of l.list))
