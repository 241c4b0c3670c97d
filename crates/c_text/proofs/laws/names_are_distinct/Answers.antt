use Rattle.c_text.proofs.MemberNames.{members_distinct}
use Rattle.c_text.proofs.FunctionNames.{functions_distinct}
use Rattle.c_text.proofs.LocalNames.{one_local}
use Rattle.c_text.proofs.laws.names_are_distinct.Goals as goal

pub returns-clause-members : goal.returns-clause-members
returns-clause-members c L ors words names = members_distinct L ors words names

pub returns-clause-functions : goal.returns-clause-functions
returns-clause-functions c = functions_distinct

pub returns-clause-locals : goal.returns-clause-locals
returns-clause-locals c = one_local
