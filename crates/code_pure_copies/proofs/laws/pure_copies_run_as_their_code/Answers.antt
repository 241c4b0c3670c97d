use Rattle.code_pure_copies.proofs.PureWhole.{pure_same_runs}
use Rattle.code_pure_copies.proofs.laws.pure_copies_run_as_their_code.Goals as goal

pub returns : goal.returns
returns c k k' origins well pure = pure_same_runs k k' origins well pure
