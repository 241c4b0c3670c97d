use Rattle.c_text.proofs.KeywordLemmas.{members_free, functions_free, locals_free}
use Rattle.c_text.proofs.laws.no_name_is_a_keyword.Goals as goal

pub returns-clause-members : goal.returns-clause-members
returns-clause-members c = members_free

pub returns-clause-functions : goal.returns-clause-functions
returns-clause-functions c = functions_free

pub returns-clause-locals : goal.returns-clause-locals
returns-clause-locals c = locals_free
