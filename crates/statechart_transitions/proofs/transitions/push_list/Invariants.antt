use Rattle.std.proofs.Common.{◌≡◌, ◌++◌, map, drop}
use Rattle.chart_tree.specs.Views as core
use Rattle.statechart_tree.specs.Views.{trans_of}
use Rattle.statechart_meaning.specs.Transitions.{expand_list}
use Rattle.statechart_names.specs.Seen.{scope_seen}
use Rattle.statechart_transitions.proofs.transitions.push_list.Given as goal

-- the transitions so far, and those that are left, are all
abbrev pub invariant-loop-trans : goal.invariant-loop-trans
invariant-loop-trans l =
    map core.trans_of l.into.items ++ expand_list (scope_seen l.scope) (map trans_of (drop l.trans-index l.list))
    ≡ map core.trans_of l.fn.into.items ++ expand_list (scope_seen l.scope) (map trans_of l.list)
