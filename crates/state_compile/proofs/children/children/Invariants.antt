use Rattle.std.proofs.Common.{◌≡◌, ◌++◌, ◌<◌}
use Rattle.std.specs.List.{AllByRecursion}
use Rattle.flow_base.specs.Lists.{items_of}
use Rattle.active_config.specs.Tree.{state_count, children_of, children_from}
use Rattle.checked_chart.proofs.Walks.{Stands, ahead}
use Rattle.state_compile.proofs.children.children.Given as goal

-- those that are listed and those from where the walk stands are all
abbrev pub invariant-loop-next : goal.invariant-loop-next
invariant-loop-next l = record {
  stands : Stands l.shape l.state l.next;
  same : items_of l.list ++ children_from l.shape l.state l.next ≡ children_of l.shape l.state;
  within : AllByRecursion (λ x. x < state_count l.shape) (items_of l.list);
}

abbrev pub decreases-loop-next : goal.decreases-loop-next
decreases-loop-next l = ahead l.shape l.next
