-- What compiled code keeps.
use Rattle.std.specs.Prelude.{◌↔◌, ◌≤◌, ◌+◌, ◌*◌, ℕ, suc, List, length}
use Rattle.flow_base.specs.declared.bounds.Bounds.{Bounds}
use Rattle.flow_base.specs.declared.chart_limits.TheConstants.{STATE_DEPTH_LIMIT}
use Rattle.active_config.specs.Tree.{state_count}
use Rattle.actions.specs.Runs.{EventWithInputs, Moment}
use Rattle.checked_chart.specs.Chart.{Chart}
use Rattle.checked_chart.specs.Counts.{transition_count, item_count}
use Rattle.checked_chart.specs.Reached.{ChartPairs}
use Rattle.sos_rules.specs.Reactions.{RulesRun}
use Rattle.code_language.specs.Code.{Code}
use Rattle.code_language.specs.Measures.{greatest, heights, works}
use Rattle.code_language.specs.Reactions.{CodeRun}
use Rattle.layout_bounds.specs.FilledBlocks.{filled_blocks}

-- how large it is: S states, P pairs, B actions that aren't empty, T transitions and I items give at most
-- 80 S + P + 2 B + T + 8 procedures, no height over five for each level that states may have and seven, and no work
-- over 400 (S + 1) (I + 1)
pub record IsSmall (c : Chart) (k : Code) : Type 0 where
  pub procedures : (pairs : ℕ) → ChartPairs c pairs → length k.procedures.procs
      ≤ 80 * state_count c.tree + pairs + 2 * filled_blocks c + transition_count c + 8
  pub height : greatest (heights k.procedures.procs) ≤ 5 * STATE_DEPTH_LIMIT + 7
  pub work : greatest (works k.procedures.procs) ≤ 400 * suc (state_count c.tree) * suc (item_count c)

-- it has the runs of the chart and no others, for all bounds and events with inputs
abbrev pub RunsAs : Chart → Code → Type 0
RunsAs c k = (b : Bounds) (events : List EventWithInputs) (moments : List Moment)
    → RulesRun c b events moments ↔ CodeRun k b events moments
