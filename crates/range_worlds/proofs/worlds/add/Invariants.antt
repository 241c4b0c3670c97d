use Rattle.std.proofs.Common.{vec_len}
use Rattle.range_worlds.proofs.Leading.{Adding}
use Rattle.range_worlds.proofs.worlds.add.Given as goal

abbrev pub invariant-loop-y : goal.invariant-loop-y
invariant-loop-y l = Adding l.setting l.fn.xs.items l.left.items l.fn.x l.merge.own l.merge.others.items

abbrev pub decreases-loop-y : goal.decreases-loop-y
decreases-loop-y l = vec_len l.left
