use Rattle.chart_tree.specs.declared.limits.TheConstants.{CHART_TEXT_LIMIT}
use Rattle.commands.proofs.ReadingLemmas.{ran_out_after}
use Rattle.commands.specs.Accepted.{RefusesAccepted}
use Rattle.commands.proofs.net_charts.read_file.Goals as goal

-- memory runs out
pub returns-in-Err : goal.returns-in-Err
returns-in-Err g c =
    let given = c.in_ok-chart.ensures in
    ran_out_after CHART_TEXT_LIMIT RefusesAccepted _ _ c.args.chart_file.now given.text given.read
    given.means.read.spells.short
