use Rattle.std.proofs.Common.{◌≡◌, map, take}
use Rattle.chart_structure.specs.Views as views
use Rattle.resolved_tree.specs.Views.{junction_of}
use Rattle.chart_check.specs.Nets as spec
use Rattle.chart_check.proofs.resolved_net.junction_nodes.Given as goal

-- the junctions so far have their nodes
abbrev pub invariant-loop-junction : goal.invariant-loop-junction
invariant-loop-junction l =
    map views.junction_of l.nodes.items
    ≡ map (λ x. spec.junction_node_of (junction_of x)) (take l.junction-index l.junctions)
