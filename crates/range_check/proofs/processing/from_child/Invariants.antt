use Rattle.std.proofs.Common.{vec_len}
use Rattle.range_check.proofs.WayLemmas.{FromChildSoFar}
use Rattle.range_check.proofs.processing.from_child.Given as goal

abbrev pub invariant-loop-way : goal.invariant-loop-way
invariant-loop-way l = FromChildSoFar l.setting l.state l.fn.inner l.left.items l.all

abbrev pub decreases-loop-way : goal.decreases-loop-way
decreases-loop-way l = vec_len l.left
