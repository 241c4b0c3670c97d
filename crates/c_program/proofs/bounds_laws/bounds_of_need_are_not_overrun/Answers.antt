use Rattle.c_program.proofs.NeedLemmas.{given_fine}
use Rattle.c_program.proofs.OtherValues.{others_fine}
use Rattle.c_program.proofs.bounds_laws.bounds_of_need_are_not_overrun.Goals as goal

pub returns-clause-chart : goal.returns-clause-chart
returns-clause-chart x c n bounds events moments need given can run =
    given_fine c n bounds events moments need given can run

pub returns-clause-other_values : goal.returns-clause-other_values
returns-clause-other_values x c names n bounds events moments same need given can run =
    others_fine c names same n bounds events moments need given can run
