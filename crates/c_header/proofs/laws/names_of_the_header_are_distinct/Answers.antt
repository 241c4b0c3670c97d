use Rattle.c_header.proofs.PathNames.{one_label}
use Rattle.c_header.proofs.ScopeNames.{scope_distinct}
use Rattle.c_header.proofs.laws.names_of_the_header_are_distinct.Goals as goal

pub returns-clause-states : goal.returns-clause-states
returns-clause-states c t n s u h = one_label t n h.tree h.size h.names s u

pub returns-clause-scope : goal.returns-clause-scope
returns-clause-scope c = scope_distinct
