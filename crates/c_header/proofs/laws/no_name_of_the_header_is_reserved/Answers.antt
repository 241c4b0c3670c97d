use Rattle.c_header.proofs.ReservedNames.{scope_unreserved}
use Rattle.c_header.proofs.laws.no_name_of_the_header_is_reserved.Goals as goal

pub returns : goal.returns
returns c = scope_unreserved
