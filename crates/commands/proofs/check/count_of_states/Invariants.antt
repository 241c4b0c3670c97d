use Rattle.std.proofs.Common.{◌≡◌, ◌-◌, ◌≤◌, take}
use Rattle.std.specs.Prelude.{sum_by}
use Rattle.active_config.specs.Tree.{state_count}
use Rattle.checked_chart.specs.Counts.{node_transitions}
use Rattle.checked_chart.specs.Kept.{chart_of}
use Rattle.commands.proofs.check.count_of_states.Given as goal

-- the transitions of the states before this one are counted
abbrev pub invariant-states : goal.invariant-states
invariant-states l =
    let chart = chart_of l.fn.chart in
    record {
      all : l.states ≡ state_count chart.tree;
      within : l.state ≤ state_count chart.tree;
      counted : l.count ≡ sum_by node_transitions (take l.state chart.nodes);
    }

abbrev pub decreases-states : goal.decreases-states
decreases-states l = state_count (chart_of l.fn.chart).tree - l.state
