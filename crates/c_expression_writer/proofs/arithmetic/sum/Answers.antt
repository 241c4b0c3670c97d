use Rattle.std.proofs.Common.{rules}
use Rattle.c_expression_writer.proofs.arithmetic.sum.Goals as goal

-- both are made
pub returns : goal.returns
returns c =
    let a = rw c.in_ok-a.ensures.0 at c.brought-a.ensures in
    let second = rw c.in_ok-a.ensures.1 at c.brought-b.ensures in
    search rules
