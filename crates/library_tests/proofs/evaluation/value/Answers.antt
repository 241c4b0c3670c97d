use Rattle.std.proofs.Common.{◌∙◌, sym, subst, IsOk}
use Rattle.actions.specs.Names.{names_of}
use Rattle.actions.specs.Sorts.{Scope, sort_of}
use Rattle.actions.specs.Trees.{expr_of}
use Rattle.library_tests.proofs.DataLemmas.{initial-scope}
use Rattle.library_tests.proofs.evaluation.value.Goals as goal

pub eval-requires : goal.eval-requires
eval-requires c =
    subst (λ (s : Scope). IsOk (sort_of s (expr_of c.args.expr.now)))
    (sym (initial-scope (names_of c.args.declared.now) c.in_ok-vals.vals c.in_ok-marks.marks c.in_ok-vals.ensures
    (c.in_ok-marks.ensures ∙ sym c.requires.states)))
    c.requires.sort
