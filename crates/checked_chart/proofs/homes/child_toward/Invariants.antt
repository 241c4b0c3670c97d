use Rattle.std.proofs.Common.{◌≡◌, ◌<◌}
use Rattle.active_config.specs.Tree.{state_count}
use Rattle.checked_chart.specs.Homes.{child_toward}
use Rattle.checked_chart.proofs.homes.child_toward.Given as goal

abbrev pub invariant-loop-parent : goal.invariant-loop-parent
invariant-loop-parent l = record {
  within : l.child < state_count l.shape;
  same : child_toward l.shape l.state l.child ≡ child_toward l.shape l.state l.dest;
}

abbrev pub decreases-loop-parent : goal.decreases-loop-parent
decreases-loop-parent l = l.child
