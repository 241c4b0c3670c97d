use Rattle.c_functions.proofs.AssigningLemmas.{assigns-data}
use Rattle.c_functions.proofs.expression_laws.assignments_change_the_struct.Goals as goal

pub returns : goal.returns
returns c = assigns-data
