use Rattle.code_depths.proofs.SameRuns.{cut_same_runs, runs_under}
use Rattle.code_depths.proofs.laws.cut_code_has_the_same_runs.Goals as goal

pub returns-clause-alike : goal.returns-clause-alike
returns-clause-alike c k k' b well cut = cut_same_runs k k' b well cut

pub returns-clause-runs : goal.returns-clause-runs
returns-clause-runs c k k' b h events moments = runs_under k k' b h events moments
