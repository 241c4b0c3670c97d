use Rattle.std.proofs.Common.{◌≡◌, map, drop}
use Rattle.std.specs.List.{flat_map}
use Rattle.statechart_tree.specs.Views.{case_of}
use Rattle.statechart_meaning.specs.Counting as spec
use Rattle.statechart_counters.specs.Seen.{counted_seen, gathered}
use Rattle.statechart_counters.proofs.transitions.add_cases.Given as goal

-- what is gathered so far, with what is left, is all
abbrev pub invariant-loop-case : goal.invariant-loop-case
invariant-loop-case l =
    gathered (map counted_seen l.counted.items) (flat_map (spec.counted_case l.events) (map case_of (drop l.case-index l.cases)))
    ≡ gathered (map counted_seen l.fn.counted.items) (flat_map (spec.counted_case l.events) (map case_of l.cases))
