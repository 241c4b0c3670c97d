use Rattle.std.proofs.Common.{vec_len}
use Rattle.range_worlds.proofs.Leading.{Uniting}
use Rattle.range_worlds.proofs.worlds.union.Given as goal

abbrev pub invariant-loop-y : goal.invariant-loop-y
invariant-loop-y l = Uniting l.setting l.fn.xs.items l.fn.ys.items l.left.items l.both.items

abbrev pub decreases-loop-y : goal.decreases-loop-y
decreases-loop-y l = vec_len l.left
