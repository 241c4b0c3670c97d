use Rattle.std.proofs.Common.{rules}
use Rattle.c_expression_writer.proofs.operators.truths.Goals as goal

-- both are made
pub returns : goal.returns
returns c =
    let left = rw c.in_ok-left.ensures.0 at c.cast-left.ensures in
    let second = rw c.in_ok-left.ensures.1 at c.cast-right.ensures in
    search rules
