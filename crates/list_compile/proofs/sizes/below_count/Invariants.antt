use Rattle.std.proofs.Common.{◌<◌, ◌≤◌, ◌-◌}
use Rattle.chart_code.specs.Ends.{end_of}
use Rattle.list_compile.proofs.sizes.below_count.Given as goal

-- the end isn't passed
abbrev pub invariant-loop-next : goal.invariant-loop-next
invariant-loop-next l = record {
  after : l.state < l.next;
  within : l.next ≤ end_of l.shape l.state;
}

abbrev pub decreases-loop-next : goal.decreases-loop-next
decreases-loop-next l = end_of l.shape l.state - l.next
