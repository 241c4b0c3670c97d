use Rattle.std.proofs.Common.{◌≡◌, map, take}
use Rattle.chart_structure.specs.Views as views
use Rattle.resolved_tree.specs.Views.{state_of}
use Rattle.chart_check.specs.Nets as spec
use Rattle.chart_check.proofs.resolved_net.nodes.Given as goal

-- the states so far have their nodes
abbrev pub invariant-loop-state : goal.invariant-loop-state
invariant-loop-state l =
    map views.node_of l.nodes.items ≡ map (λ x. spec.node_of (state_of x)) (take l.state-index l.states)
