use Rattle.code_language.proofs.AcceptLemmas.{one_first_fault, no_first_fault}
use Rattle.code_language.proofs.laws.a_code_has_one_first_fault.Goals as goal

pub returns-clause-one : goal.returns-clause-one
returns-clause-one c = one_first_fault

pub returns-clause-none : goal.returns-clause-none
returns-clause-none c = no_first_fault
