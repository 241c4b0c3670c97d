use Rattle.std.proofs.Common.{◌∙◌, sym, subst, Some, ◌≡◌}
use Rattle.token_grammar.specs.declared.token.Span.{Span}
use Rattle.chart_tree.specs.declared.fault.FormKind.TheVariants.{HistoryUnwanted}
use Rattle.chart_tree.specs.First.{Passed, at_place}
use Rattle.chart_structure.specs.Net.{history_of}
use Rattle.chart_structure.proofs.KeepLemmas.{keep_one, keep_old, keep_new}
use Rattle.chart_structure.proofs.StateLemmas.{history_fault}
use Rattle.chart_structure.proofs.states.with_history.Goals as goal

pub returns-else-is_or-clause-one : goal.returns-else-is_or-clause-one
returns-else-is_or-clause-one c =
    keep_one _ _ _ _ c.keep.ensures c.requires.one
    (history_fault _ _ c.word.result _ c.requires.state c.word.ensures (sym c.is_or.ensures ∙ c.if-is_or.false)
    (sym c.in-Some.ensures))

pub returns-else-is_or-clause-old : goal.returns-else-is_or-clause-old
returns-else-is_or-clause-old c = λ f h. keep_old _ _ _ f c.keep.ensures h

pub returns-else-is_or-clause-new : goal.returns-else-is_or-clause-new
returns-else-is_or-clause-new c = λ at ne is.
    let same : c.in-Some.at ≡ at = (let e = c.in-Some.ensures in cc) in
    subst (λ (x : Span). Passed c.keep.result (at_place HistoryUnwanted x)) same (keep_new _ _ _ c.keep.ensures)
