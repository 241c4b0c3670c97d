use Rattle.std.proofs.lemmas.Result.{err_from_is_err_and}
use Rattle.chart_tree.specs.declared.limits.TheConstants.{CHART_TEXT_LIMIT}
use Rattle.checked_chart.specs.Kept.{chart_of}
use Rattle.commands.specs.Accepted.{RefusesAccepted}
use Rattle.commands.proofs.ReadingLemmas.{ran_out_after}
use Rattle.c_program.proofs.files.read_file.Goals as goal

-- nothing comes of the file
pub returns-in_err-summed : goal.returns-in_err-summed
returns-in_err-summed g c =
    let p = err_from_is_err_and c.from_residual.result c.from_residual.ensures.1 in
    rw (p.1, p.2) c.in_err-summed.ensures

-- the text is that of the chart
pub returns-in-Ok : goal.returns-in-Ok
returns-in-Ok g c =
    let given = c.in_ok-summed.ensures in
    record {
      text = given.text;
      read = given.read;
      means = record {
        chart = chart_of c.in_ok-summed.summed.chart;
        sum = c.in_ok-summed.summed.sum;
        summed = given.means;
        of_c = c.in-Ok.ensures;
      };
    }

-- memory runs out
pub returns : goal.returns
returns g c =
    let given = c.in_ok-summed.ensures in
    ran_out_after CHART_TEXT_LIMIT RefusesAccepted _ _ c.args.name.now given.text given.read
    given.means.accepted.read.spells.short
