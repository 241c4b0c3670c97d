use Rattle.chart_code.proofs.Whole.{code_runs}
use Rattle.commands.proofs.WithinNeed.{code_fine}
use Rattle.commands.proofs.run_laws.code_of_a_chart_overruns_no_bounds_of_its_need.Goals as goal

pub returns-clause-fine : goal.returns-clause-fine
returns-clause-fine x c k n bounds events moments same need deep long can run =
    code_fine c k n bounds events moments same need deep long can run

pub returns-clause-compiled : goal.returns-clause-compiled
returns-clause-compiled x c valid = code_runs c valid
