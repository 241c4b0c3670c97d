use Rattle.c_functions.proofs.StatesTests.{on_is, bare_is, last_is}
use Rattle.c_functions.proofs.plan_laws.tests_of_fields_are_those_of_marks.Goals as goal

pub returns-clause-on : goal.returns-clause-on
returns-clause-on c t n st m s h = on_is t n st m h s

pub returns-clause-bare : goal.returns-clause-bare
returns-clause-bare c t n st m s num h = bare_is t n st m h num s

pub returns-clause-last : goal.returns-clause-last
returns-clause-last c t n st m s num k h = last_is t n st m h num k s
