use Rattle.c_header.proofs.GuardLemmas.{no_member, no_local}
use Rattle.c_header.proofs.laws.the_name_that_is_replaced_is_no_other.Goals as goal

pub returns-clause-members : goal.returns-clause-members
returns-clause-members c = no_member

pub returns-clause-locals : goal.returns-clause-locals
returns-clause-locals c = no_local
