use Rattle.std.proofs.lemmas.Result.{err_from_is_err_and}
use Rattle.chart_tree.specs.declared.limits.TheConstants.{CHART_TEXT_LIMIT}
use Rattle.checked_chart.specs.Kept.{chart_of}
use Rattle.commands.proofs.ReadingLemmas.{ran_out_after}
use Rattle.commands.specs.Accepted.{RefusesAccepted}
use Rattle.commands.proofs.check.read_counts.Goals as goal

-- nothing comes of the file
pub returns-in_err-checked : goal.returns-in_err-checked
returns-in_err-checked g c =
    let p = err_from_is_err_and c.from_residual.result c.from_residual.ensures.1 in
    rw (p.1, p.2) c.in_err-checked.ensures

-- the chart is counted
pub returns-in-Ok : goal.returns-in-Ok
returns-in-Ok g c =
    let given = c.in_ok-checked.ensures in
    let checked = c.in_ok-checked.checked in
    record {
      text = given.text;
      read = given.read;
      means = record {
        chart = chart_of checked.chart;
        accepted = given.means.accepted;
        counts = record { pairs = checked.pairs; counted = given.means.pairs; line_is = c.in-Ok.ensures };
      };
    }

-- memory runs out
pub returns : goal.returns
returns g c =
    let given = c.in_ok-checked.ensures in
    ran_out_after CHART_TEXT_LIMIT RefusesAccepted _ _ c.args.chart_file.now given.text given.read
    given.means.accepted.read.spells.short
