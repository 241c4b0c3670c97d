use Rattle.std.proofs.Common.{◌≡◌, map, take}
use Rattle.resolved_tree.specs.Plain as plain
use Rattle.resolved_tree.specs.Views.{state_of}
use Rattle.checked_chart.specs.Views.{node_seen}
use Rattle.chart_check.proofs.parts.plain_nodes.Given as goal

-- the states so far are made
abbrev pub invariant-loop-state : goal.invariant-loop-state
invariant-loop-state l =
    map node_seen l.made.items ≡ map (λ x. plain.plain_node (state_of x)) (take l.state-index l.states)
