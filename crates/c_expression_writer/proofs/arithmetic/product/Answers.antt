use Rattle.std.proofs.Common.{rules}
use Rattle.c_expression_writer.proofs.arithmetic.product.Goals as goal

-- both are made
pub returns : goal.returns
returns c =
    let a = rw c.in_ok-a.ensures.0 at c.cast.ensures in
    let second = rw c.in_ok-a.ensures.1 at c.cast-2.ensures in
    search rules
