use Rattle.flow_base.specs.Lists.{items_of}
use Rattle.checked_chart.specs.Kept.{chart_of}
use Rattle.chart_code.specs.Places.{state_parts_size}
use Rattle.list_compile.specs.declared.number_limits.TheConstants.{SIZE_LIMIT}
use Rattle.list_compile.specs.Tables.{IsTable}
use Rattle.list_compile.proofs.counts.state_parts_sizes.Given as goal

-- those before the number are in the table
abbrev pub invariant-loop-state : goal.invariant-loop-state
invariant-loop-state l =
    IsTable (state_parts_size (chart_of l.chart)) l.state SIZE_LIMIT (items_of l.sizes)
