use Rattle.chart_structure.proofs.ListLemmas.{JunctionsSoFar}
use Rattle.chart_structure.proofs.lists.with_junctions.Given as goal

abbrev pub invariant-loop-junction : goal.invariant-loop-junction
invariant-loop-junction l = JunctionsSoFar l.net l.state l.kind l.found l.junction-index l.fn.first l.kept
