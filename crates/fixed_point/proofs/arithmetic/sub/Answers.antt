use Rattle.fixed_point.proofs.Small.{difference_fits, difference_is, same_num}
use Rattle.fixed_point.proofs.arithmetic.sub.Goals as goal

-- both mantissas are small
pub overflow_sub-result : goal.overflow_sub-result
overflow_sub-result c =
    let made = c.aligned-left.ensures in
    difference_fits _ _ _ _ made.left made.right c.requires.left_size c.requires.right_size

-- and their difference is exact
pub returns : goal.returns
returns c =
    let made = c.aligned-left.ensures in
    let rest = difference_is _ _ _ _ made.left made.right c.requires.left_size c.requires.right_size in
    same_num _ _ _ _ rest c.max.ensures
