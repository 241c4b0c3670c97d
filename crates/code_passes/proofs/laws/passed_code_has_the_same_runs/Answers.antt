use Rattle.code_passes.proofs.PassedLemmas.{passed_same}
use Rattle.code_passes.proofs.laws.passed_code_has_the_same_runs.Goals as goal

pub returns : goal.returns
returns c k k' tags well passed = passed_same k k' tags well passed
