use Rattle.accepted_charts.proofs.OneAnswer.{one_accepted, one_fault, accepted_or_refused}
use Rattle.accepted_charts.proofs.laws.a_text_has_one_answer.Goals as goal

pub returns : goal.returns
returns c = record { chart = one_accepted; fault = one_fault; apart = accepted_or_refused }
