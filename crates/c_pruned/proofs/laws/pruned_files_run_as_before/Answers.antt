use Rattle.c_pruned.proofs.Calling.{calls-alike}
use Rattle.c_pruned.proofs.Law.{runs-as, refuses-as}
use Rattle.c_pruned.proofs.laws.pruned_files_run_as_before.Goals as goal

pub returns-clause-calls : goal.returns-clause-calls
returns-clause-calls c = calls-alike

pub returns-clause-runs : goal.returns-clause-runs
returns-clause-runs c = runs-as

pub returns-clause-refuses : goal.returns-clause-refuses
returns-clause-refuses c = refuses-as
