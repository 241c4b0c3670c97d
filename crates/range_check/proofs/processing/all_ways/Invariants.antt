use Rattle.std.proofs.Common.{vec_len}
use Rattle.range_check.proofs.WayLemmas.{Putting}
use Rattle.range_check.proofs.processing.all_ways.Given as goal

abbrev pub invariant-loop-way : goal.invariant-loop-way
invariant-loop-way l = Putting l.setting l.fn.ways.items l.fn.more.items l.left.items l.all.items

abbrev pub decreases-loop-way : goal.decreases-loop-way
decreases-loop-way l = vec_len l.left
