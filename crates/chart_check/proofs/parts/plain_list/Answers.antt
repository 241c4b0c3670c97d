use Rattle.std.proofs.Common.{◌≡◌, ◌<◌, length, map, get_or, sym, ap, ◌∙◌, subst, arith}
use Rattle.std.proofs.lemmas.List.{take_all}
use Rattle.flow_base.specs.Lists.{items_of}
use Rattle.resolved_tree.specs.Plain as plain
use Rattle.resolved_tree.specs.Promise.{IsTrans}
use Rattle.resolved_tree.specs.Views.{trans_of, list_of}
use Rattle.chart_check.proofs.MapLemmas.{map_map}
use Rattle.chart_check.proofs.PartLemmas.{all_at}
use Rattle.chart_check.proofs.parts.plain_list.Goals as goal

pub plain_trans-requires : goal.plain_trans-requires
plain_trans-requires c =
    let r = c.requires.0 in
    let xs = items_of c.args.list.now in
    let i = c.loop-trans.trans-index in
    let same : c.items-trans-items.result.now ≡ xs = c.items-trans-items.ensures in
    let within : i < length xs = omega (arith, ap length same) in (
      r,
      subst (λ x. IsTrans r (trans_of x))
          (sym (c.trans-item.is ∙ ap (λ ys. get_or ys i c.trans-item.result) same))
          (all_at (IsTrans r) trans_of xs i c.trans-item.result within c.requires.1),
    )

pub returns : goal.returns
returns c =
    let xs = c.items-trans-items.result.now in
    c.loop-trans.invariant
    ∙ ap (map (λ x. plain.plain_trans (trans_of x))) (take_all c.loop-trans.trans-index xs (omega arith))
    ∙ sym (map_map trans_of plain.plain_trans xs)
    ∙ ap (λ ys. plain.plain_list (list_of ys)) c.items-trans-items.ensures
