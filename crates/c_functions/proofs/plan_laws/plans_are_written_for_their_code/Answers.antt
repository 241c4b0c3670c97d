use Rattle.c_functions.proofs.WriterLemmas.{plans_are}
use Rattle.c_functions.proofs.plan_laws.plans_are_written_for_their_code.Goals as goal

pub returns : goal.returns
returns c = plans_are
