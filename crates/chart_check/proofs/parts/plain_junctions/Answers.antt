use Rattle.std.proofs.Common.{◌<◌, length, map, sym, ap, ◌∙◌, subst, arith}
use Rattle.std.proofs.lemmas.List.{take_all}
use Rattle.resolved_tree.specs.Plain as plain
use Rattle.resolved_tree.specs.Promise.{AreTrans}
use Rattle.resolved_tree.specs.Resolved.{Junction}
use Rattle.resolved_tree.specs.Views.{junction_of}
use Rattle.chart_check.proofs.MapLemmas.{map_map}
use Rattle.chart_check.proofs.PartLemmas.{all_at}
use Rattle.chart_check.proofs.parts.plain_junctions.Goals as goal

pub plain_list-requires : goal.plain_list-requires
plain_list-requires c =
    let r = c.requires.0 in
    let xs = c.args.junctions.now in
    let i = c.loop-junction.junction-index in
    let within : i < length xs = omega arith in (
      r,
      subst (λ x. AreTrans r (junction_of x).list) (sym c.junction-item.is)
          (all_at (λ (j : Junction). AreTrans r j.list) junction_of xs i c.junction-item.result within c.requires.1),
    )

pub returns : goal.returns
returns c =
    c.loop-junction.invariant
    ∙ ap (map (λ x. plain.plain_list (junction_of x).list))
    (take_all c.loop-junction.junction-index c.args.junctions.now (omega arith))
    ∙ sym (map_map junction_of (λ (j : Junction). plain.plain_list j.list) c.args.junctions.now)
