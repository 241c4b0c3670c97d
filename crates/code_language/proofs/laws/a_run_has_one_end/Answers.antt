use Rattle.code_language.proofs.RunLemmas.{one_end}
use Rattle.code_language.proofs.laws.a_run_has_one_end.Goals as goal

pub returns : goal.returns
returns c = one_end
