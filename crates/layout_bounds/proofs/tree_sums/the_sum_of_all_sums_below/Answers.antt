use Rattle.layout_bounds.proofs.SumsByDepth.{sum_of_sums, sum_of_sums_most}
use Rattle.layout_bounds.proofs.tree_sums.the_sum_of_all_sums_below.Goals as goal

pub returns-clause-depths : goal.returns-clause-depths
returns-clause-depths x t f tree = sum_of_sums t tree f

pub returns-clause-levels : goal.returns-clause-levels
returns-clause-levels x t f d tree deep = sum_of_sums_most t tree f d deep
