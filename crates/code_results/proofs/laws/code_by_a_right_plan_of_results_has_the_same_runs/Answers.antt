use Rattle.code_results.proofs.Whole.{made_same_runs}
use Rattle.code_results.proofs.laws.code_by_a_right_plan_of_results_has_the_same_runs.Goals as goal

pub returns : goal.returns
returns c P k well right = made_same_runs P k well right
