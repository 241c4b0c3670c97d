use Rattle.std.proofs.Common.{◌≡◌, map, drop}
use Rattle.std.specs.List.{flat_map}
use Rattle.statechart_tree.specs.Views.{trans_of}
use Rattle.statechart_meaning.specs.Counting as spec
use Rattle.statechart_names.specs.Seen.{scope_seen}
use Rattle.statechart_counters.specs.Again.{recurring_seen, collected, on_cases, trans_cases}
use Rattle.statechart_counters.proofs.recurring.add_list.Given as goal

-- what is collected so far, with what is left, is all
abbrev pub invariant-loop-trans : goal.invariant-loop-trans
invariant-loop-trans l =
    collected (map recurring_seen l.all.items)
    (flat_map (trans_cases (scope_seen l.scope)) (map trans_of (drop l.trans-index l.list)))
    ≡ collected (map recurring_seen l.fn.all.items)
    (flat_map (trans_cases (scope_seen l.scope)) (map trans_of l.list))
