use Rattle.c_inlined.proofs.Law.{all-alike, all-run, all-refuse}
use Rattle.c_inlined.proofs.laws.inlined_files_run_as_before.Goals as goal

pub returns-clause-calls : goal.returns-clause-calls
returns-clause-calls c = λ file made is int k f xs s after x e. all-alike file int made is k f xs s after x e

pub returns-clause-runs : goal.returns-clause-runs
returns-clause-runs c = λ file made is K int. all-run file int made is K

pub returns-clause-refuses : goal.returns-clause-refuses
returns-clause-refuses c = λ file made is K int. all-refuse file int made is K
