use Rattle.code_fields.proofs.LineLemmas.{var_of-line, var_of-some}
use Rattle.code_fields.proofs.laws.data_have_one_line.Goals as goal

pub returns-clause-read : goal.returns-clause-read
returns-clause-read c = var_of-line

pub returns-clause-spelled : goal.returns-clause-spelled
returns-clause-spelled c = var_of-some
