use Rattle.c_runs.proofs.Runs.{runs-as-rules}
use Rattle.c_runs.proofs.laws.files_of_code_that_serves_run_as_charts.Goals as goal

pub returns : goal.returns
returns c = runs-as-rules
