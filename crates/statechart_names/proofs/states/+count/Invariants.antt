use Rattle.std.proofs.Common.{◌≡◌, ◌+◌, map, drop}
use Rattle.statechart_tree.specs.Views.{state_of}
use Rattle.statechart_meaning.specs.Scope.{states_count}
use Rattle.statechart_names.specs.Seen.{row_of}
use Rattle.statechart_names.proofs.states.+count.Given as goal

-- the states so far, and those that are left, are all
abbrev pub invariant-states_count-loop-state : goal.invariant-states_count-loop-state
invariant-states_count-loop-state l =
    l.count + states_count (row_of (map state_of (drop l.state-index l.states)))
    ≡ states_count (row_of (map state_of l.states))
