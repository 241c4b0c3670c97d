use Rattle.statechart_meaning.proofs.PlainLemmas.{plain_stands_for_itself}
use Rattle.statechart_meaning.proofs.laws.a_plain_chart_stands_for_itself.Goals as goal

pub returns : goal.returns
returns x c = plain_stands_for_itself c
