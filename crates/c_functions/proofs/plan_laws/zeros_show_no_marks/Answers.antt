use Rattle.c_functions.proofs.RunsBegun.{no_fields_show, suc_numbers, place_numbers}
use Rattle.c_functions.proofs.plan_laws.zeros_show_no_marks.Goals as goal

pub returns-clause-zeros : goal.returns-clause-zeros
returns-clause-zeros c t n num = no_fields_show t n num

pub returns-clause-numbers : goal.returns-clause-numbers
returns-clause-numbers c t = suc_numbers t

pub returns-clause-places : goal.returns-clause-places
returns-clause-places c t = place_numbers t
