use Rattle.std.proofs.Common.{◌≡◌, ◌++◌}
use Rattle.flow_base.specs.Lists.{items_of}
use Rattle.checked_chart.specs.Kept.{chart_of}
use Rattle.chart_code.specs.Orders.{ascending}
use Rattle.chart_parts.specs.Regions.{region_parts}
use Rattle.chart_parts.proofs.regions.append_ascending.Given as goal

-- what was there, and the parts of the states before this one
abbrev pub invariant-loop-state : goal.invariant-loop-state
invariant-loop-state l =
    items_of l.out ≡ items_of l.initial.out ++ ascending (region_parts (chart_of l.chart) l.region) l.state
