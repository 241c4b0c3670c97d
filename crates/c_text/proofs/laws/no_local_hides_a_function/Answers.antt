use Rattle.c_text.proofs.HiddenNames.{no_function, no_struct}
use Rattle.c_text.proofs.laws.no_local_hides_a_function.Goals as goal

pub returns-clause-functions : goal.returns-clause-functions
returns-clause-functions c = no_function

pub returns-clause-the_struct : goal.returns-clause-the_struct
returns-clause-the_struct c = no_struct
