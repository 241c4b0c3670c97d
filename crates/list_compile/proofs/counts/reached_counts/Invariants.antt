use Rattle.flow_base.specs.declared.chart_limits.TheConstants.{JUNCTION_LIMIT}
use Rattle.flow_base.specs.Lists.{items_of}
use Rattle.checked_chart.specs.Kept.{chart_of}
use Rattle.chart_code.specs.Places.{reached_count}
use Rattle.list_compile.specs.Tables.{IsTable}
use Rattle.list_compile.proofs.counts.reached_counts.Given as goal

-- those before the number are in the table
abbrev pub invariant-loop-state : goal.invariant-loop-state
invariant-loop-state l =
    IsTable (λ s. reached_count (chart_of l.chart) s l.kind) l.state JUNCTION_LIMIT (items_of l.counts)
