use Rattle.accepted_charts.proofs.AcceptLemmas.{accepted_valid}
use Rattle.accepted_charts.proofs.laws.accepted_charts_are_valid.Goals as goal

pub returns : goal.returns
returns c = accepted_valid
