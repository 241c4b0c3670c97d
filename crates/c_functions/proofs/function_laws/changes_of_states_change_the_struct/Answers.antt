use Rattle.c_functions.proofs.LayoutChanges.{chooses, keeps, turns}
use Rattle.c_functions.proofs.function_laws.changes_of_states_change_the_struct.Goals as goal

pub returns-clause-chooses : goal.returns-clause-chooses
returns-clause-chooses c = chooses

pub returns-clause-keeps : goal.returns-clause-keeps
returns-clause-keeps c = keeps

pub returns-clause-turns : goal.returns-clause-turns
returns-clause-turns c = turns
