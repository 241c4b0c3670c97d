use Rattle.c_loops.proofs.Looping.{calls-alike}
use Rattle.c_loops.proofs.Runs.{runs-on, refuses-on}
use Rattle.c_loops.proofs.laws.loops_run_as_calls.Goals as goal

pub returns-clause-calls : goal.returns-clause-calls
returns-clause-calls c = calls-alike

pub returns-clause-runs : goal.returns-clause-runs
returns-clause-runs c = runs-on

pub returns-clause-refuses : goal.returns-clause-refuses
returns-clause-refuses c = refuses-on
