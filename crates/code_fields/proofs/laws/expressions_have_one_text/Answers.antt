use Rattle.code_fields.proofs.ExprLemmas.{expr_of-words, expr_of-some}
use Rattle.code_fields.proofs.laws.expressions_have_one_text.Goals as goal

pub returns-clause-read : goal.returns-clause-read
returns-clause-read c = expr_of-words

pub returns-clause-spelled : goal.returns-clause-spelled
returns-clause-spelled c = expr_of-some
