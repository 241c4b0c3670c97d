use Rattle.chart_format.proofs.Formatted.{spelled_has}
use Rattle.chart_format.proofs.laws.spelled_charts_meet_their_conditions.Goals as goal

pub returns : goal.returns
returns c = spelled_has
