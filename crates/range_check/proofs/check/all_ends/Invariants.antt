use Rattle.std.proofs.Common.{vec_len}
use Rattle.range_check.proofs.CheckLemmas.{Ending}
use Rattle.range_check.proofs.check.all_ends.Given as goal

abbrev pub invariant-loop-way : goal.invariant-loop-way
invariant-loop-way l = Ending l.setting l.fn.processed l.left.items l.all.items

abbrev pub decreases-loop-way : goal.decreases-loop-way
decreases-loop-way l = vec_len l.left
