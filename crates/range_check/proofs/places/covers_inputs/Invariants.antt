use Rattle.range_check.proofs.PlaceLemmas.{Covered}
use Rattle.range_check.proofs.places.covers_inputs.Given as goal

abbrev pub invariant-loop-number : goal.invariant-loop-number
invariant-loop-number l = Covered l.setting l.vars l.number
