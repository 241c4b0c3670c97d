use Rattle.chart_reader.proofs.OneRefusal.{one_chart}
use Rattle.chart_reader.proofs.laws.a_text_spells_one_chart.Goals as goal

pub returns : goal.returns
returns c = one_chart
