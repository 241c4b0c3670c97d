use Rattle.c_functions.proofs.RunsSimulation.{calls_do}
use Rattle.c_functions.proofs.plan_laws.functions_do_what_procedures_do.Goals as goal

pub returns : goal.returns
returns c t k plans fuel =
    calls_do t plans.numbers plans.apart plans.composed k plans.bounds plans.sums plans.agree plans.bodies plans.written
    fuel
