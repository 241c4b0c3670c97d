use Rattle.flow_base.specs.declared.chart_limits.TheConstants.{STATE_LIMIT}
use Rattle.flow_base.specs.Lists.{items_of}
use Rattle.chart_code.specs.Ends.{below_count}
use Rattle.list_compile.specs.Tables.{IsTable}
use Rattle.list_compile.proofs.counts.below_counts.Given as goal

-- those before the number are in the table
abbrev pub invariant-loop-state : goal.invariant-loop-state
invariant-loop-state l =
    IsTable (below_count l.shape) l.state STATE_LIMIT (items_of l.counts)
