use Rattle.commands.proofs.SameTraces.{shrunk_runs, shrunk_traced}
use Rattle.commands.proofs.run_laws.shrunk_code_runs_as_its_chart.Goals as goal

pub returns-clause-runs : goal.returns-clause-runs
returns-clause-runs c chart k valid shrunk = shrunk_runs chart k valid shrunk

pub returns-clause-traced : goal.returns-clause-traced
returns-clause-traced c chart k bounds call second end valid shrunk =
    shrunk_traced chart k valid shrunk bounds call second end
