use Rattle.std.proofs.Common.{◌-◌}
use Rattle.chart_structure.specs.Net.{junction_count}
use Rattle.chart_structure.proofs.WalkLemmas.{ReachesSoFar}
use Rattle.chart_structure.proofs.reach.reached_from.Given as goal

abbrev pub invariant-loop-next : goal.invariant-loop-next
invariant-loop-next l = ReachesSoFar l.net l.list l.mark l.next l.marks l.found.items l.pairs

abbrev pub decreases-loop-next : goal.decreases-loop-next
decreases-loop-next l = junction_count l.net - l.next
