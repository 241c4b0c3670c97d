use Rattle.c_inlined.proofs.Law.{calls-alike, runs-as, refuses-as}
use Rattle.c_inlined.proofs.laws.inlined_functions_run_as_before.Goals as goal

pub returns-clause-calls : goal.returns-clause-calls
returns-clause-calls c = λ file p f' is int k f xs s after x e. calls-alike file p f' is int k f xs s after x e

pub returns-clause-runs : goal.returns-clause-runs
returns-clause-runs c = λ file p f' is K int. runs-as file p f' is int K

pub returns-clause-refuses : goal.returns-clause-refuses
returns-clause-refuses c = λ file p f' is K int. refuses-as file p f' is int K
