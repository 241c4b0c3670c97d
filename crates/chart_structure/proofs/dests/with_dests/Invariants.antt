use Rattle.chart_structure.proofs.DestLemmas.{DestsSoFar}
use Rattle.chart_structure.proofs.dests.with_dests.Given as goal

abbrev pub invariant-loop-arrow : goal.invariant-loop-arrow
invariant-loop-arrow l = DestsSoFar l.net l.state l.kind l.list l.arrow-index l.fn.first l.kept
