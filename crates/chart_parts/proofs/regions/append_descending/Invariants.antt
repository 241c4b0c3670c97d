use Rattle.std.proofs.Common.{◌≡◌, ◌++◌}
use Rattle.flow_base.specs.Lists.{items_of}
use Rattle.active_config.specs.Tree.{state_count}
use Rattle.checked_chart.specs.Kept.{chart_of}
use Rattle.chart_code.specs.Orders.{descending}
use Rattle.chart_parts.specs.Regions.{region_parts}
use Rattle.chart_parts.proofs.regions.append_descending.Given as goal

-- what is appended and what is left are what was there and the whole region
abbrev pub invariant-loop-state : goal.invariant-loop-state
invariant-loop-state l =
    items_of l.out ++ descending (region_parts (chart_of l.chart) l.region) l.state
    ≡ items_of l.initial.out
    ++ descending (region_parts (chart_of l.chart) l.region) (state_count (chart_of l.chart).tree)
