use Rattle.range_check.proofs.CloseLemmas.{ReactsSoFar}
use Rattle.range_check.proofs.closing.reacts_to_all.Given as goal

abbrev pub invariant-loop-number : goal.invariant-loop-number
invariant-loop-number l = ReactsSoFar l.setting l.y l.events l.number
