use Rattle.std.proofs.Common.{rules}
use Rattle.c_shape.proofs.file_shape.FileShape.on_and_no_number.Goals as goal

-- both are made
pub returns : goal.returns
returns c =
    let on = rw c.in_ok-on.ensures.0 at c.on_test-on.ensures in
    let second = rw c.in_ok-on.ensures.1 at c.number_test-childless.ensures in
    search rules
