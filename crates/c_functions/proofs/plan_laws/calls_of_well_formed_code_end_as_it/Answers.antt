use Rattle.std.proofs.Common.{suc}
use Rattle.code_language.specs.Reactions.{first_frame}
use Rattle.c_functions.proofs.RunsEnds.{called_outside}
use Rattle.c_functions.proofs.RunsLasting.{ends_as_code}
use Rattle.c_functions.proofs.plan_laws.calls_of_well_formed_code_end_as_it.Goals as goal

pub returns : goal.returns
returns c k plans fuel p now m w is moment over stands notes =
    ends_as_code k plans.numbers plans.bounds fuel (first_frame p w now) _ is moment over
    (called_outside k.tree plans.numbers k.procedures plans.bounds plans.apart plans.composed plans.sums plans.agree
    plans.bodies plans.written (suc fuel) p now m w stands notes)
