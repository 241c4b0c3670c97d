use Rattle.chart_reader.proofs.OneRefusal.{spells_or_refused}
use Rattle.chart_reader.proofs.laws.a_text_is_a_chart_or_is_refused.Goals as goal

pub returns : goal.returns
returns c = spells_or_refused
