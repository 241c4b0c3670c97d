-- What code may declare of states, data and events: what a chart may.
use Rattle.std.specs.Prelude.{◌<◌, ◌≤◌, ℕ, length}
use Rattle.std.specs.List.{AllByRecursion}
use Rattle.flow_base.specs.declared.chart_limits.TheConstants.{STATE_LIMIT, STATE_DEPTH_LIMIT, VARIABLE_LIMIT}
use Rattle.flow_base.specs.declared.chart_limits.TheConstants.{EVENT_LIMIT}
use Rattle.active_config.specs.Tree.{Tree, IsTree, state_count, ancestors}
use Rattle.actions.specs.Data.{HasInits}
use Rattle.actions.specs.Names.{Names}
use Rattle.checked_chart.specs.Valid.{HasNames, HasFlagMode}

-- the states are a tree, not too many and none too deep; there are not too many data and events; every name is a NAME,
-- and none stands twice among data and events or among siblings; the first value of a datum is of its sort, and a flag
-- has no mode of its own
pub record IsTable (t : Tree) (n : Names) : Type 0 where
  pub tree : IsTree t
  pub states : state_count t ≤ STATE_LIMIT
  pub depth : (s : ℕ) → s < state_count t → length (ancestors t s) ≤ STATE_DEPTH_LIMIT
  pub vars : length n.vars ≤ VARIABLE_LIMIT
  pub events : length n.events ≤ EVENT_LIMIT
  pub names : HasNames t n
  pub inits : HasInits n
  pub flags : AllByRecursion HasFlagMode n.vars
