use Rattle.layout_bounds.proofs.ChildCounts.{children_count, below_counts, below_counts_most}
use Rattle.layout_bounds.proofs.tree_sums.children_and_states_below.Goals as goal

pub returns-clause-children : goal.returns-clause-children
returns-clause-children x t tree = children_count t tree

pub returns-clause-depths : goal.returns-clause-depths
returns-clause-depths x t tree = below_counts t tree

pub returns-clause-below : goal.returns-clause-below
returns-clause-below x t d tree deep = below_counts_most t tree d deep
