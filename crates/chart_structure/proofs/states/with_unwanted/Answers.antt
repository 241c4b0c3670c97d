use Rattle.std.proofs.Common.{◌∙◌, subst, sym}
use Rattle.chart_tree.specs.declared.fault.FormKind.TheVariants.{DefaultUnwanted}
use Rattle.chart_structure.specs.declared.net.Arrow.{Arrow}
use Rattle.chart_tree.specs.First.{Passed, at_place}
use Rattle.std.specs.Prelude.{slice_get, Some, ◌≡◌}
use Rattle.chart_structure.proofs.KeepLemmas.{keep_one, keep_old, keep_new}
use Rattle.chart_structure.proofs.ListLemmas.{some_length, is_empty_false}
use Rattle.chart_structure.proofs.StateLemmas.{first_is, unwanted_fault}
use Rattle.chart_structure.proofs.states.with_unwanted.Goals as goal

pub returns-clause-one : goal.returns-clause-one
returns-clause-one c = keep_one _ _ _ _ c.keep.ensures c.requires.one
    (unwanted_fault _ _ c.word.result _ _ c.requires.state c.word.ensures
    (sym c.is_or.ensures ∙ c.if-is_or.false) c.list-list.ensures.list
    (some_length _ (is_empty_false _ _ c.is_empty.ensures c.if-is_empty.false)))

pub returns-clause-old : goal.returns-clause-old
returns-clause-old c = λ f h. keep_old _ _ _ f c.keep.ensures h

pub returns-clause-new : goal.returns-clause-new
returns-clause-new c = λ a ne is.
    subst (λ (x : Arrow). Passed c.keep.result (at_place DefaultUnwanted x.at))
    (first_is c.list-list.result.now _ a (some_length _ (is_empty_false _ _ c.is_empty.ensures c.if-is_empty.false))
    (subst (λ l. slice_get l 0 ≡ Some a) (sym c.list-list.ensures.list) is)) (keep_new _ _ _ c.keep.ensures)
