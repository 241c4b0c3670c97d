use Rattle.chart_structure.proofs.ChartLemmas.{valid_net}
use Rattle.chart_structure.proofs.laws.charts_with_structure_have_valid_nets.Goals as goal

pub returns : goal.returns
returns c = valid_net
