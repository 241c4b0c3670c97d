use Rattle.checked_chart.proofs.Walks.{ahead}
use Rattle.range_worlds.specs.Leads.{chart_in}
use Rattle.range_worlds.proofs.ConfigLemmas.{Walks}
use Rattle.range_worlds.proofs.configs.children.Given as goal

abbrev pub invariant-loop-next : goal.invariant-loop-next
invariant-loop-next l = Walks (chart_in l.setting).tree l.state l.all.items l.next

abbrev pub decreases-loop-next : goal.decreases-loop-next
decreases-loop-next l = ahead (chart_in l.setting).tree l.next
