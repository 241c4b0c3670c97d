use Rattle.c_decided_runs.proofs.Checking.{checked-between}
use Rattle.c_decided_runs.proofs.laws.checked_plans_fit_between.Goals as goal

pub returns : goal.returns
returns c = checked-between
