use Rattle.std.proofs.lemmas.Result.{err_from_is_err_and}
use Rattle.chart_tree.specs.Views.{chart_of}
use Rattle.resolved_tree.specs.Views.{resolved_of}
use Rattle.chart_format.proofs.Formatted.{spelled_has}
use Rattle.accepted_charts.proofs.PromiseLemmas.{is_small_text}
use Rattle.accepted_charts.proofs.AcceptLemmas.{promised, of_names, refused}
use Rattle.accepted_charts.proofs.check_text.Goals as goal

pub resolve-requires-clause-states : goal.resolve-requires-clause-states
resolve-requires-clause-states c =
    (is_small_text (chart_of c.in_ok-tree.tree) (spelled_has c.args.text.now _ c.in_ok-tree.ensures.found)).states

pub resolve-requires-clause-junctions : goal.resolve-requires-clause-junctions
resolve-requires-clause-junctions c =
    (is_small_text (chart_of c.in_ok-tree.tree) (spelled_has c.args.text.now _ c.in_ok-tree.ensures.found)).junctions

pub resolve-requires-clause-events : goal.resolve-requires-clause-events
resolve-requires-clause-events c =
    (is_small_text (chart_of c.in_ok-tree.tree) (spelled_has c.args.text.now _ c.in_ok-tree.ensures.found)).events

pub resolve-requires-clause-vars : goal.resolve-requires-clause-vars
resolve-requires-clause-vars c =
    (is_small_text (chart_of c.in_ok-tree.tree) (spelled_has c.args.text.now _ c.in_ok-tree.ensures.found)).vars

pub returns-in_err-resolved-clause-refused : goal.returns-in_err-resolved-clause-refused
returns-in_err-resolved-clause-refused c =
    let p = err_from_is_err_and c.from_residual-in_err-resolved.result c.from_residual-in_err-resolved.ensures.1 in
    rw (p.1, p.2) (of_names c.args.text.now (chart_of c.in_ok-tree.tree) _ c.in_ok-tree.ensures.found c.in_err-resolved.ensures.refused)

pub check-requires : goal.check-requires
check-requires c = promised c.args.text.now (chart_of c.in_ok-tree.tree) (resolved_of c.in_ok-resolved.resolved)
    c.in_ok-tree.ensures.found c.in_ok-resolved.ensures.resolved

pub returns-clause-refused : goal.returns-clause-refused
returns-clause-refused c = refused c.args.text.now (chart_of c.in_ok-tree.tree) (resolved_of c.in_ok-resolved.resolved)
    c.check.result c.in_ok-tree.ensures.found c.in_ok-resolved.ensures.resolved c.check.ensures.refused
