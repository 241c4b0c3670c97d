use Rattle.active_config.specs.Tree.{children_of, children_from}
use Rattle.checked_chart.proofs.Walks.{Stands, ahead}
use Rattle.bound_prove.specs.Lookups.{chart_in}
use Rattle.bound_prove.proofs.Pieces.{OneSoFar}
use Rattle.bound_prove.proofs.lookup.Lookup.one_child.Given as goal

-- the children before where the walk stands are evaluated
abbrev pub invariant-loop-next : goal.invariant-loop-next
invariant-loop-next l = record {
  so_far : OneSoFar l.self l.part l.fn.met.items l.met.items (children_of (chart_in l.self).tree l.s)
      (children_from (chart_in l.self).tree l.s l.next) l.need;
  stands : Stands (chart_in l.self).tree l.s l.next;
}

abbrev pub decreases-loop-next : goal.decreases-loop-next
decreases-loop-next l = ahead (chart_in l.self).tree l.next
