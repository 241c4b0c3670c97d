use Rattle.active_config.specs.Tree.{is_below}
use Rattle.checked_chart.proofs.Walks.{Climbs, behind}
use Rattle.checked_chart.proofs.homes.common_above.Given as goal

abbrev pub invariant-loop-next : goal.invariant-loop-next
invariant-loop-next l = Climbs l.shape l.state (is_below l.shape l.dest) l.next

abbrev pub decreases-loop-next : goal.decreases-loop-next
decreases-loop-next l = behind l.next
