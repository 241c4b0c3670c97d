use Rattle.c_functions.proofs.RunsEnds.{called_outside}
use Rattle.c_functions.proofs.plan_laws.calls_from_outside_end_as_code.Goals as goal

pub returns : goal.returns
returns c t k plans fuel p now m w h e =
    called_outside t plans.numbers k plans.bounds plans.apart plans.composed plans.sums plans.agree plans.bodies
    plans.written fuel p now m w h e
