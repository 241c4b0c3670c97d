use Rattle.std.proofs.Common.{◌∙◌, sym, subst}
use Rattle.chart_tree.specs.First.{Passed, at_place}
use Rattle.chart_tree.specs.declared.fault.FormKind.TheVariants.{DefaultOpen}
use Rattle.chart_structure.specs.declared.net.Arrow.{Arrow}
use Rattle.chart_structure.proofs.KeepLemmas.{keep_one, keep_old, keep_new}
use Rattle.chart_structure.proofs.ListLemmas.{some_length, is_empty_false, last_is, last_fault, not_open}
use Rattle.chart_structure.proofs.lists.with_last.Goals as goal

pub returns-then-is_open-clause-one : goal.returns-then-is_open-clause-one
returns-then-is_open-clause-one c =
    keep_one _ _ _ _ c.keep.ensures c.requires.one
    (last_fault _ _ _ _ c.requires.state c.requires.met
    (some_length _ (is_empty_false _ _ c.is_empty.ensures c.if-is_empty.false))
    (sym c.is_open.ensures ∙ c.if-is_open.true))

pub returns-then-is_open-clause-old : goal.returns-then-is_open-clause-old
returns-then-is_open-clause-old c = λ f h. keep_old _ _ _ f c.keep.ensures h

pub returns-then-is_open-clause-new : goal.returns-then-is_open-clause-new
returns-then-is_open-clause-new c = λ a last is.
    subst (λ (x : Arrow). Passed c.keep.result (at_place DefaultOpen x.at))
    (last_is _ _ _ (some_length _ (is_empty_false _ _ c.is_empty.ensures c.if-is_empty.false)) last)
    (keep_new _ _ _ c.keep.ensures)

pub returns-else-is_open-clause-new : goal.returns-else-is_open-clause-new
returns-else-is_open-clause-new c =
    λ a last is. absurd
    (not_open _ _ (last_is _ _ _ (some_length _ (is_empty_false _ _ c.is_empty.ensures c.if-is_empty.false)) last)
    (sym c.is_open.ensures ∙ c.if-is_open.false) is)
