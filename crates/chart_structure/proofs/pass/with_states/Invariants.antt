use Rattle.chart_structure.proofs.PassLemmas.{StatesSoFar}
use Rattle.chart_structure.proofs.pass.with_states.Given as goal

abbrev pub invariant-loop-state : goal.invariant-loop-state
invariant-loop-state l = StatesSoFar l.net l.state l.marks l.found.fault l.found.pairs
