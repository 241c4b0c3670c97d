use Rattle.std.proofs.Common.{ap}
use Rattle.actions.specs.Trees.{expr_of}
use Rattle.actions.specs.Values.{scope_at}
use Rattle.actions.proofs.EvaluationLemmas.{literal, datum_read}
use Rattle.actions.proofs.evaluation.leaf.Goals as goal

pub returns-in-Lit-clause-sort : goal.returns-in-Lit-clause-sort
returns-in-Lit-clause-sort c = literal (scope_at c.args.vals.now c.args.marks.now) _ _ (ap expr_of c.in-Lit.is)

pub returns-in-Read-clause-sort : goal.returns-in-Read-clause-sort
returns-in-Read-clause-sort c =
    datum_read c.args.vals.now c.args.marks.now _ _ _ (ap expr_of c.in-Read.is) c.get.ensures.sort
