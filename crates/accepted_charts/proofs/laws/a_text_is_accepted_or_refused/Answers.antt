use Rattle.accepted_charts.proofs.SomeAnswer.{accepted_or_faulty}
use Rattle.accepted_charts.proofs.laws.a_text_is_accepted_or_refused.Goals as goal

pub returns : goal.returns
returns c = accepted_or_faulty
