use Rattle.std.proofs.Common.{sym, subst, Some}
use Rattle.chart_tree.specs.declared.fault.FormKind.TheVariants.{TooManyPairs}
use Rattle.chart_tree.specs.First.{at_place}
use Rattle.chart_structure.specs.Pass.{IsAnswer}
use Rattle.chart_structure.proofs.PassLemmas.{answer_pairs, answer_first, none_where, some_where}
use Rattle.chart_structure.proofs.ValidLemmas.{answer_valid}
use Rattle.chart_structure.proofs.pass.first_fault.Goals as goal
use Rattle.chart_structure.proofs.pass.first_fault.Goals.{else-is_none-via-then-is_none+else-found}
use Rattle.chart_structure.proofs.pass.first_fault.Goals.{else-is_none-via-else-is_none}

pub returns-then-found-clause-first : goal.returns-then-found-clause-first
returns-then-found-clause-first c =
    subst (λ at. IsAnswer c.args.net.now (Some (at_place TooManyPairs at))) (sym c.name.ensures)
    (answer_pairs _ _ _ c.in_ok-found.ensures.first c.in_ok-found.ensures.pairs
    (none_where _ _ c.is_none.ensures c.if-is_none.true) c.if-found.true)

pub returns-clause-first : goal.returns-clause-first
returns-clause-first c = elim c.else-is_none.branch [
  | else-is_none-via-then-is_none+else-found w ↦
      answer_first _ _ _ c.in_ok-found.ensures.first c.in_ok-found.ensures.pairs (λ e. w.if-found.false)
  | else-is_none-via-else-is_none w ↦
      answer_first _ _ _ c.in_ok-found.ensures.first c.in_ok-found.ensures.pairs
      (λ e. absurd (some_where _ _ c.is_none.ensures w.if-is_none.false e))
]

pub returns-then-found-clause-valid : goal.returns-then-found-clause-valid
returns-then-found-clause-valid c = answer_valid _ _ c.shape.ensures.net (returns-then-found-clause-first c)

pub returns-clause-valid : goal.returns-clause-valid
returns-clause-valid c = answer_valid _ _ c.shape.ensures.net (returns-clause-first c)
