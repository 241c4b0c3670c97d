use Rattle.std.proofs.Common.{rules}
use Rattle.c_expression_writer.proofs.ends.out_of_range.Goals as goal

-- both are made
pub returns-in_ok-below-in-true-true : goal.returns-in_ok-below-in-true-true
returns-in_ok-below-in-true-true c =
    let below = rw c.in_ok-below-in-true-true.ensures.0 at c.below.ensures in
    let second = rw c.in_ok-below-in-true-true.ensures.1 at c.above.ensures in
    search rules
