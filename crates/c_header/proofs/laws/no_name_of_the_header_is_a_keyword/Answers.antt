use Rattle.c_header.proofs.ScopeNames.{scope_free}
use Rattle.c_header.proofs.laws.no_name_of_the_header_is_a_keyword.Goals as goal

pub returns : goal.returns
returns c = scope_free
