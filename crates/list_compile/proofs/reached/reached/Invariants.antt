use Rattle.std.proofs.Common.{◌≡◌, ◌-◌, ◌<◌}
use Rattle.std.specs.List.{AllByRecursion}
use Rattle.flow_base.specs.Lists.{items_of}
use Rattle.checked_chart.specs.Chart.{junction, junction_count}
use Rattle.checked_chart.specs.Kept.{chart_of}
use Rattle.checked_chart.specs.Views.{list_seen}
use Rattle.chart_code.specs.ReachedJunctions.{spread, junctions_to, reached}
use Rattle.list_compile.proofs.reached.reached.Given as goal

-- what is found, with what is left to look at, is what is reached; all are junctions of the chart
abbrev pub invariant-loop-place : goal.invariant-loop-place
invariant-loop-place l = record {
  same : spread (λ j. junctions_to (junction (chart_of l.chart) j)) (junction_count (chart_of l.chart) - l.place)
      l.place (items_of l.found)
      ≡ reached (chart_of l.chart) (list_seen l.list);
  within : AllByRecursion (λ j. j < junction_count (chart_of l.chart)) (items_of l.found);
}
