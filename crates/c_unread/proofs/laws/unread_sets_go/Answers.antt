use Rattle.c_unread.proofs.Calling.{calls-alike, runs-as, refuses-as}
use Rattle.c_unread.proofs.laws.unread_sets_go.Goals as goal

pub returns-clause-calls : goal.returns-clause-calls
returns-clause-calls c = λ file int k f xs s after x e. calls-alike file int k f xs s after x e

pub returns-clause-runs : goal.returns-clause-runs
returns-clause-runs c = runs-as

pub returns-clause-refuses : goal.returns-clause-refuses
returns-clause-refuses c = refuses-as
