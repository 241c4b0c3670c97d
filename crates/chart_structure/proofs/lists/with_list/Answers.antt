use Rattle.chart_structure.proofs.ListLemmas.{list_passed}
use Rattle.chart_structure.proofs.lists.with_list.Goals as goal

pub returns-in-Default-clause-new : goal.returns-in-Default-clause-new
returns-in-Default-clause-new c =
    list_passed _ _ _ _ _ (λ a d w h. c.with_last.ensures.old _ (c.with_dests-kept.ensures.new a d w h))
    (λ e. c.with_last.ensures.new)

pub returns-in-Outer-clause-new : goal.returns-in-Outer-clause-new
returns-in-Outer-clause-new c =
    let is = c.in-Outer.is in list_passed _ _ _ _ _ c.with_dests-kept.ensures.new (λ e. absurd cc)

pub returns-in-Inner-clause-new : goal.returns-in-Inner-clause-new
returns-in-Inner-clause-new c =
    let is = c.in-Inner.is in list_passed _ _ _ _ _ c.with_dests-kept.ensures.new (λ e. absurd cc)
