use Rattle.std.proofs.Common.{◌≡◌, ◌-◌, ◌≤◌, List, length, take}
use Rattle.std.specs.Prelude.{sum_by}
use Rattle.checked_chart.specs.Chart.{Trans, junction_count}
use Rattle.checked_chart.specs.Kept.{chart_of}
use Rattle.commands.proofs.check.count_of_junctions.Given as goal

-- the transitions of the junctions before this one are counted
abbrev pub invariant-junctions : goal.invariant-junctions
invariant-junctions l =
    let chart = chart_of l.fn.chart in
    record {
      all : l.junctions ≡ junction_count chart;
      within : l.junction ≤ junction_count chart;
      counted : l.count ≡ sum_by (λ (list : List Trans). length list) (take l.junction chart.junctions);
    }

abbrev pub decreases-junctions : goal.decreases-junctions
decreases-junctions l = junction_count (chart_of l.fn.chart) - l.junction
