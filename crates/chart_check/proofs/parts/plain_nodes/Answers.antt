use Rattle.std.proofs.Common.{◌<◌, length, map, sym, ap, ◌∙◌, subst, arith}
use Rattle.std.proofs.lemmas.List.{take_all}
use Rattle.resolved_tree.specs.Plain as plain
use Rattle.resolved_tree.specs.Promise.{IsStateOf}
use Rattle.resolved_tree.specs.Views.{state_of}
use Rattle.chart_check.proofs.MapLemmas.{map_map}
use Rattle.chart_check.proofs.PartLemmas.{all_at}
use Rattle.chart_check.proofs.parts.plain_nodes.Goals as goal

pub plain_node-requires : goal.plain_node-requires
plain_node-requires c =
    let r = c.requires.0 in
    let xs = c.args.states.now in
    let i = c.loop-state.state-index in
    let within : i < length xs = omega arith in (
      r,
      subst (λ x. IsStateOf r (state_of x)) (sym c.state-item.is)
          (all_at (IsStateOf r) state_of xs i c.state-item.result within c.requires.1),
    )

pub returns : goal.returns
returns c =
    c.loop-state.invariant
    ∙ ap (map (λ x. plain.plain_node (state_of x))) (take_all c.loop-state.state-index c.args.states.now (omega arith))
    ∙ sym (map_map state_of plain.plain_node c.args.states.now)
