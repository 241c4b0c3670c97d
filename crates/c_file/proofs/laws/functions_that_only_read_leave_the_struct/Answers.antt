use Rattle.c_file.proofs.ChangeLemmas.{reads_called, struct_left}
use Rattle.c_file.proofs.laws.functions_that_only_read_leave_the_struct.Goals as goal

pub returns-clause-calls : goal.returns-clause-calls
returns-clause-calls c = λ L functions changing i call are at reads.
    reads_called L functions changing are i call at reads

pub returns-clause-left : goal.returns-clause-left
returns-clause-left c = struct_left
