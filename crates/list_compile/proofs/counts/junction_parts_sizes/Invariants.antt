use Rattle.flow_base.specs.Lists.{items_of}
use Rattle.checked_chart.specs.Kept.{chart_of}
use Rattle.chart_code.specs.Places.{junction_parts_size}
use Rattle.list_compile.specs.declared.number_limits.TheConstants.{SIZE_LIMIT}
use Rattle.list_compile.specs.Tables.{IsTable}
use Rattle.list_compile.proofs.counts.junction_parts_sizes.Given as goal

-- those before the number are in the table
abbrev pub invariant-loop-junction : goal.invariant-loop-junction
invariant-loop-junction l =
    IsTable (junction_parts_size (chart_of l.chart)) l.junction SIZE_LIMIT (items_of l.sizes)
