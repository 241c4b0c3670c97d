use Rattle.c_functions.proofs.LayoutTests.{on-has, bare-has, last-has, shows-active}
use Rattle.c_functions.proofs.function_laws.tests_of_states_give_which_are_active.Goals as goal

pub returns-clause-on : goal.returns-clause-on
returns-clause-on c = on-has

pub returns-clause-last : goal.returns-clause-last
returns-clause-last c = last-has

pub returns-clause-active : goal.returns-clause-active
returns-clause-active c = shows-active

pub returns-clause-bare : goal.returns-clause-bare
returns-clause-bare c = bare-has
