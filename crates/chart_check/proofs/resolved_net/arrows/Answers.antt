use Rattle.std.proofs.Common.{sym, ◌≡◌, rules, subst, IfOk}
use Rattle.std.proofs.lemmas.Iterator.{YieldsList-from_slice, YieldsList-from_map, items_from_collect}
use Rattle.flow_base.specs.Lists.{items_of}
use Rattle.resolved_tree.specs.Views.{trans_of}
use Rattle.chart_check.specs.Nets as spec
use Rattle.chart_check.proofs.MapLemmas.{map_map}
use Rattle.chart_check.proofs.resolved_net.arrows.Goals as goal

pub returns : goal.returns
returns c =
    subst (λ xs. IfOk c.collect.result (λ w. w.items ≡ xs))
    (sym (map_map trans_of spec.arrow_of (items_of c.args.list.now)))
    (items_from_collect _ c.collect.ensures.ran
    (YieldsList-from_map _ (λ x. spec.arrow_of (trans_of x)) (YieldsList-from_slice _ (cc))
    c.map.ensures.closure (λ x r q k. search rules)))
