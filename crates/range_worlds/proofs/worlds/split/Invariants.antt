use Rattle.std.proofs.Common.{vec_len}
use Rattle.range_worlds.proofs.SplitLemmas.{Parting}
use Rattle.range_worlds.proofs.worlds.split.Given as goal

abbrev pub invariant-loop-x : goal.invariant-loop-x
invariant-loop-x l = Parting l.setting l.test l.fn.xs.items l.left.items l.parts.yes.items l.parts.no.items

abbrev pub decreases-loop-x : goal.decreases-loop-x
decreases-loop-x l = vec_len l.left
