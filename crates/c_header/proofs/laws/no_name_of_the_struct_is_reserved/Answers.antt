use Rattle.std.proofs.Common.{refl}
use Rattle.c_names.specs.Reserved.{is_reserved}
use Rattle.c_header.proofs.FieldNames.{no_member_kept, no_local_kept}
use Rattle.c_header.proofs.laws.no_name_of_the_struct_is_reserved.Goals as goal

pub returns-clause-members : goal.returns-clause-members
returns-clause-members c = no_member_kept

pub returns-clause-locals : goal.returns-clause-locals
returns-clause-locals c = no_local_kept

pub returns-clause-pointer : goal.returns-clause-pointer
unfolding is_reserved
returns-clause-pointer c = refl
