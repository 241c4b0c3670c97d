use Rattle.std.proofs.Common.{rules}
use Rattle.c_shape.proofs.file_shape.FileShape.and_unset.Goals as goal

-- both are made
pub returns : goal.returns
returns c =
    let unset = rw c.in_ok-test.ensures.1 at c.unset_test.ensures in
    search rules
