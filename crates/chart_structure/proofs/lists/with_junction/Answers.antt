use Rattle.std.proofs.Common.{subst, sym}
use Rattle.chart_tree.specs.declared.fault.FormKind.TheVariants.{DefaultOpen}
use Rattle.checked_chart.specs.Reached.{Meets, AtJunction}
use Rattle.chart_structure.specs.Reached.{links_of}
use Rattle.chart_structure.specs.Structure.{ListFault, StructureFault}
use Rattle.chart_tree.specs.First.{Passed, at_place}
use Rattle.chart_structure.specs.Net.{list_of}
use Rattle.chart_structure.proofs.KeepLemmas.{keep_one, keep_old, keep_new}
use Rattle.chart_structure.proofs.ListLemmas.{empty_fault}
use Rattle.chart_structure.proofs.lists.with_junction.Goals as goal

pub with_list-kept-requires-clause-met : goal.with_list-kept-requires-clause-met
with_list-kept-requires-clause-met c =
    subst (Meets (links_of c.args.net.now) (list_of c.args.net.now c.args.state c.args.kind))
    (sym c.junction-list.ensures.list)
    (AtJunction _ c.requires.reached)

pub returns-then-is_empty-clause-one : goal.returns-then-is_empty-clause-one
returns-then-is_empty-clause-one c =
    keep_one _ _ _ _ (c.keep.ensures) c.with_list-kept.ensures.one
    (subst (λ at. StructureFault c.args.net.now (at_place DefaultOpen at)) (sym c.junction_name-at.ensures)
    (empty_fault c.args.net.now c.args.state c.args.junction c.args.kind _ c.requires.state c.in-Default.is
    c.requires.reached c.junction-list.ensures.list (c.is_empty.ensures.0 c.if-is_empty.true)))

pub returns-then-is_empty-clause-old : goal.returns-then-is_empty-clause-old
returns-then-is_empty-clause-old c = λ f h. keep_old _ _ _ f c.keep.ensures (c.with_list-kept.ensures.old f h)

pub returns-then-is_empty-clause-new : goal.returns-then-is_empty-clause-new
returns-then-is_empty-clause-new c =
    λ f h. keep_old _ _ _ f c.keep.ensures
    (c.with_list-kept.ensures.new f
    (subst (λ l. ListFault c.args.net.now c.args.state l c.args.kind f) (sym c.junction-list.ensures.list) h))

pub returns-then-is_empty-clause-empty : goal.returns-then-is_empty-clause-empty
returns-then-is_empty-clause-empty c =
    λ d none. subst (λ at. Passed c.keep.result (at_place DefaultOpen at)) c.junction_name-at.ensures
    (keep_new _ _ _ c.keep.ensures)
