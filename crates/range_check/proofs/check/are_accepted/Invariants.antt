use Rattle.range_check.proofs.CheckLemmas.{Accepted}
use Rattle.range_check.proofs.check.are_accepted.Given as goal

abbrev pub invariant-loop-i : goal.invariant-loop-i
invariant-loop-i l = Accepted l.setting l.ys l.i l.ends
