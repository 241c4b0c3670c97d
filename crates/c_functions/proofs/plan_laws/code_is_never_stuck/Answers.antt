use Rattle.c_functions.proofs.RunsStays.{never_stuck}
use Rattle.c_functions.proofs.plan_laws.code_is_never_stuck.Goals as goal

pub returns : goal.returns
returns c = never_stuck
