use Rattle.range_check.specs.Places.{ReactsFromAll}
use Rattle.range_check.proofs.closing.reacts_from_all.Given as goal

abbrev pub invariant-loop-i : goal.invariant-loop-i
invariant-loop-i l = ReactsFromAll l.setting l.i
