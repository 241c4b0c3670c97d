use Rattle.layout_bounds.proofs.SumsBelow.{sum_below_splits, sum_below_root}
use Rattle.layout_bounds.proofs.tree_sums.the_sum_below_a_state.Goals as goal

pub returns-clause-splits : goal.returns-clause-splits
returns-clause-splits x t f s tree lt = sum_below_splits t tree f s lt

pub returns-clause-whole : goal.returns-clause-whole
returns-clause-whole x t f tree = sum_below_root t tree f
