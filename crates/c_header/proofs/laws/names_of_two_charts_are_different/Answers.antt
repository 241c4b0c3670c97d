use Rattle.c_header.proofs.ChartNames.{one_chart}
use Rattle.c_header.proofs.laws.names_of_two_charts_are_different.Goals as goal

pub returns : goal.returns
returns c one other K M i j p q differ li lj e = differ (one_chart one other K M p q i j li lj e)
