use Rattle.std.proofs.Common.{rules}
use Rattle.c_expression_writer.proofs.ends.saturated.Goals as goal

-- both are made
pub returns : goal.returns
returns c =
    let test = rw c.in_ok-test.ensures.0 at c.below.ensures in
    let second = rw c.in_ok-test.ensures.1 at c.up_to_high-upper.ensures in
    search rules
