use Rattle.std.proofs.Common.{ℕ, List}
use Rattle.std.proofs.lemmas.Result.{err_from_is_err_and}
use Rattle.chart_tree.specs.declared.limits.TheConstants.{CHART_TEXT_LIMIT}
use Rattle.checked_chart.specs.Kept.{chart_of}
use Rattle.accepted_charts.specs.Accepted.{Refuses}
use Rattle.commands.proofs.ReadingLemmas.{gives_of}
use Rattle.commands.proofs.ChartFileLemmas.{unread_as, refused_as}
use Rattle.commands.proofs.RulesLemmas.{too_long_refused}
use Rattle.c_program.specs.declared.files.Summed.{Summed}
use Rattle.c_program.specs.Texts.{IsSummed}
use Rattle.c_program.proofs.files.read_summed.Goals as goal

-- the text isn't read
pub returns-in_err-text : goal.returns-in_err-text
returns-in_err-text g c =
    let p = err_from_is_err_and c.from_residual.result c.from_residual.ensures.1 in
    rw (p.1, p.2) (unread_as Refuses _ _ c.args.name.now _ too_long_refused c.in_err-text.ensures)

-- the text is that of an accepted chart
pub returns-in-Ok : goal.returns-in-Ok
returns-in-Ok g c =
    gives_of CHART_TEXT_LIMIT _ _ c.args.name.now c.in_ok-text.text c.in_ok-text.ensures
    (λ (text : List ℕ) (summed : Summed). IsSummed text (chart_of summed.chart) summed.sum) c.in-Ok.summed _
    c.deref.ensures.value c.in-Ok.ensures.summed

-- the text is refused
pub returns : goal.returns
returns g c =
    rw c.end_of_fault.ensures
    (refused_as Refuses _ _ c.args.name.now c.in_ok-text.text c.in_ok-text.ensures c.in-Err.fault _ c.deref.ensures.value
    c.in-Err.ensures.refused)
