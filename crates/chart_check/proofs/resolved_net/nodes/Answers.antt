use Rattle.std.proofs.Common.{map, sym, ap, ◌∙◌, arith}
use Rattle.std.proofs.lemmas.List.{take_all}
use Rattle.resolved_tree.specs.Views.{state_of}
use Rattle.chart_check.specs.Nets as spec
use Rattle.chart_check.proofs.MapLemmas.{map_map}
use Rattle.chart_check.proofs.resolved_net.nodes.Goals as goal

pub returns : goal.returns
returns c =
    c.loop-state.invariant
    ∙ ap (map (λ x. spec.node_of (state_of x)))
    (take_all c.loop-state.state-index c.args.states.now (omega arith))
    ∙ sym (map_map state_of spec.node_of c.args.states.now)
