use Rattle.chart_types.proofs.FaultLemmas.{InitsLeft}
use Rattle.chart_types.proofs.inits.with_inits.Given as goal

abbrev pub invariant-loop-i : goal.invariant-loop-i
invariant-loop-i l = InitsLeft l.fn.found l.vars l.inits l.i l.first
