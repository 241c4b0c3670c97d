-- What a numbering keeps.
use Rattle.std.specs.Prelude.{ℕ, suc, List}
use Rattle.flow_base.specs.declared.chart_limits.TheConstants.{STATE_LIMIT, JUNCTION_LIMIT}
use Rattle.active_config.specs.Tree.{state_count}
use Rattle.checked_chart.specs.declared.parts.ListKind.TheVariants.{Outer, Default}
use Rattle.checked_chart.specs.Chart.{Chart, junction_count}
use Rattle.chart_code.specs.Ends.{below_count}
use Rattle.chart_code.specs.Orders.{sum_to}
use Rattle.chart_code.specs.Places.{reached_count, state_parts_size, junction_parts_size, group_size, lists_size}
use Rattle.list_compile.specs.declared.number_limits.TheConstants.{SUM_LIMIT}
use Rattle.list_compile.specs.Tables.{IsTable}

-- how many states are below each state, how many junctions its outer and its default list reach, and, for each kind of
-- procedures, how many there are of the states or junctions before each one
pub record IsNumbering (c : Chart)
    (belows outers defaults parts_before junction_parts_before groups_before lists_before : List ℕ) : Type 0 where
  pub below : IsTable (below_count c.tree) (state_count c.tree) STATE_LIMIT belows
  pub outer : IsTable (λ s. reached_count c s Outer) (state_count c.tree) JUNCTION_LIMIT outers
  pub default : IsTable (λ s. reached_count c s Default) (state_count c.tree) JUNCTION_LIMIT defaults
  pub parts : IsTable (sum_to (state_parts_size c)) (suc (state_count c.tree)) SUM_LIMIT parts_before
  pub junction_parts : IsTable (sum_to (junction_parts_size c)) (suc (junction_count c)) SUM_LIMIT junction_parts_before
  pub groups : IsTable (sum_to (group_size c)) (suc (state_count c.tree)) SUM_LIMIT groups_before
  pub lists : IsTable (sum_to (lists_size c)) (suc (state_count c.tree)) SUM_LIMIT lists_before
