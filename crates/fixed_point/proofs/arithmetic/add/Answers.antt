use Rattle.fixed_point.proofs.Small.{sum_fits, sum_is, same_num}
use Rattle.fixed_point.proofs.arithmetic.add.Goals as goal

-- both mantissas are small
pub overflow_add-result : goal.overflow_add-result
overflow_add-result c =
    let made = c.aligned-left.ensures in
    sum_fits _ _ _ _ made.left made.right c.requires.left_size c.requires.right_size

-- and their sum is exact
pub returns : goal.returns
returns c =
    let made = c.aligned-left.ensures in
    let total = sum_is _ _ _ _ made.left made.right c.requires.left_size c.requires.right_size in
    same_num _ _ _ _ total c.max.ensures
