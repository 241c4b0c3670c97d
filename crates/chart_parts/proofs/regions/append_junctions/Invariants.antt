use Rattle.std.proofs.Common.{◌≡◌, ◌++◌}
use Rattle.flow_base.specs.Lists.{items_of}
use Rattle.checked_chart.specs.Kept.{chart_of}
use Rattle.chart_code.specs.Orders.{ascending}
use Rattle.chart_parts.specs.Parts.{junction_parts}
use Rattle.chart_parts.proofs.regions.append_junctions.Given as goal

-- what was there, and the parts of the junctions before this one
abbrev pub invariant-loop-junction : goal.invariant-loop-junction
invariant-loop-junction l =
    items_of l.out ≡ items_of l.initial.out ++ ascending (junction_parts (chart_of l.chart)) l.junction
