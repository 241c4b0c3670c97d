use Rattle.c_header.proofs.ToldNames.{no_member_told, no_local_told}
use Rattle.c_header.proofs.laws.the_name_that_is_told_is_no_other.Goals as goal

pub returns-clause-members : goal.returns-clause-members
returns-clause-members c = no_member_told

pub returns-clause-locals : goal.returns-clause-locals
returns-clause-locals c = no_local_told
