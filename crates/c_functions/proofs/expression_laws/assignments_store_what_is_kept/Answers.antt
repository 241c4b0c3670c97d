use Rattle.c_functions.proofs.StoringAssignments.{assigns}
use Rattle.c_functions.proofs.StoringFields.{field-takes}
use Rattle.c_functions.proofs.expression_laws.assignments_store_what_is_kept.Goals as goal

pub returns-clause-kept : goal.returns-clause-kept
returns-clause-kept c = assigns

pub returns-clause-field : goal.returns-clause-field
returns-clause-field c = field-takes
