use Rattle.std.proofs.Common.{map, sym, ap, ◌∙◌, arith}
use Rattle.std.proofs.lemmas.List.{take_all}
use Rattle.resolved_tree.specs.Views.{junction_of}
use Rattle.chart_check.specs.Nets as spec
use Rattle.chart_check.proofs.MapLemmas.{map_map}
use Rattle.chart_check.proofs.resolved_net.junction_nodes.Goals as goal

pub returns : goal.returns
returns c =
    c.loop-junction.invariant
    ∙ ap (map (λ x. spec.junction_node_of (junction_of x)))
    (take_all c.loop-junction.junction-index c.args.junctions.now (omega arith))
    ∙ sym (map_map junction_of spec.junction_node_of c.args.junctions.now)
