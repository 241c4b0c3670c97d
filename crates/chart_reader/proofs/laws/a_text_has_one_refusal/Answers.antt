use Rattle.chart_reader.proofs.OneRefusal.{one_refusal}
use Rattle.chart_reader.proofs.laws.a_text_has_one_refusal.Goals as goal

pub returns : goal.returns
returns c = one_refusal
