use Rattle.chart_reader.proofs.OneRefusal.{refused_spells_none}
use Rattle.chart_reader.proofs.laws.a_refused_text_spells_no_chart.Goals as goal

pub returns : goal.returns
returns c = refused_spells_none
