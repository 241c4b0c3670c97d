use Rattle.c_bare.proofs.Calling.{calls-alike}
use Rattle.c_bare.proofs.Law.{runs-as, refuses-as}
use Rattle.c_bare.proofs.laws.bare_functions_run_as_before.Goals as goal

pub returns-clause-calls : goal.returns-clause-calls
returns-clause-calls c = λ flags file is int k f xs s after x e. calls-alike flags file is int k f xs s after x e

pub returns-clause-runs : goal.returns-clause-runs
returns-clause-runs c = runs-as

pub returns-clause-refuses : goal.returns-clause-refuses
returns-clause-refuses c = refuses-as
