use Rattle.chart_check.proofs.ChartLemmas.{chart_valid}
use Rattle.chart_check.proofs.validity_laws.faultless_charts_are_valid.Goals as goal

pub returns : goal.returns
returns c = chart_valid
