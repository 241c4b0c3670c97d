use Rattle.chart_code.proofs.Runs.{same_runs}
use Rattle.chart_code.proofs.procedure_laws.code_runs_as_the_rules.Goals as goal

pub returns : goal.returns
returns x c k N M valid tree names K L b events moments = same_runs c k N M valid tree names K L b events moments
