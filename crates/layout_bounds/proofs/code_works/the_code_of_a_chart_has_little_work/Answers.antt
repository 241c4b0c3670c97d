use Rattle.layout_bounds.proofs.CodeWorks.{works_within, greatest_work_within, no_work_over}
use Rattle.layout_bounds.proofs.code_works.the_code_of_a_chart_has_little_work.Goals as goal

pub returns-clause-bounded : goal.returns-clause-bounded
returns-clause-bounded x c p valid = works_within c valid p

pub returns-clause-greatest : goal.returns-clause-greatest
returns-clause-greatest x c valid = greatest_work_within c valid

pub returns-clause-none_over : goal.returns-clause-none_over
returns-clause-none_over x c valid = no_work_over c valid
