use Rattle.std.proofs.Common.{vec_len}
use Rattle.range_blocks.proofs.FiringLemmas.{Gathering}
use Rattle.range_blocks.proofs.searches.all_fires.Given as goal

abbrev pub invariant-loop-firing : goal.invariant-loop-firing
invariant-loop-firing l = Gathering l.setting l.fn.fires.items l.fn.more.items l.left.items l.all.items

abbrev pub decreases-loop-firing : goal.decreases-loop-firing
decreases-loop-firing l = vec_len l.left
