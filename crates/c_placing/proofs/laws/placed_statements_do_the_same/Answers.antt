use Rattle.c_placing.proofs.Doing.{placed-do-the-same}
use Rattle.c_placing.proofs.Staying.{others-are-as-before}
use Rattle.c_placing.proofs.laws.placed_statements_do_the_same.Goals as goal

pub returns-clause-same : goal.returns-clause-same
returns-clause-same c = placed-do-the-same

pub returns-clause-others : goal.returns-clause-others
returns-clause-others c = others-are-as-before
