use Rattle.c_functions.proofs.CodeStatements.{written-goes, written-faults, file-divides}
use Rattle.c_functions.proofs.expression_laws.statements_do_what_code_does.Goals as goal

pub returns-clause-goes : goal.returns-clause-goes
returns-clause-goes c = written-goes

pub returns-clause-faults : goal.returns-clause-faults
returns-clause-faults c = written-faults

pub returns-clause-divides : goal.returns-clause-divides
returns-clause-divides c = file-divides
