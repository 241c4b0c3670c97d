-- How many things of each kind a chart has, and how many it may have.
use Rattle.std.specs.Prelude.{◌+◌, ◌<◌, ◌≤◌, ℕ, List, length, sum_by}
use Rattle.flow_base.specs.declared.chart_limits.TheConstants.{STATE_LIMIT, STATE_DEPTH_LIMIT, JUNCTION_LIMIT}
use Rattle.flow_base.specs.declared.chart_limits.TheConstants.{TRANSITION_LIMIT, VARIABLE_LIMIT, EVENT_LIMIT}
use Rattle.flow_base.specs.declared.chart_limits.TheConstants.{ITEM_LIMIT}
use Rattle.active_config.specs.Tree.{state_count, ancestors}
use Rattle.checked_chart.specs.declared.limits.TheConstants.{PAIR_LIMIT}
use Rattle.checked_chart.specs.Chart.{Chart, Node, Trans, junction_count}
use Rattle.checked_chart.specs.Reached.{ChartPairs}

-- the statements of a transition
abbrev pub trans_statements : Trans → ℕ
trans_statements t = length t.condition + length t.action

-- the transitions of a node
abbrev pub node_transitions : Node → ℕ
node_transitions n = length n.outer + length n.inner + length n.default

-- the statements of a node
abbrev pub node_statements : Node → ℕ
node_statements n =
    length n.entry + length n.during + length n.exit
    + sum_by trans_statements n.outer + sum_by trans_statements n.inner + sum_by trans_statements n.default

-- the transitions of a chart
abbrev pub transition_count : Chart → ℕ
transition_count c = sum_by node_transitions c.nodes + sum_by (λ (list : List Trans). length list) c.junctions

-- the statements of a chart
abbrev pub statement_count : Chart → ℕ
statement_count c = sum_by node_statements c.nodes + sum_by (sum_by trans_statements) c.junctions

-- all that a chart has of states, junctions, transitions, statements, data and events
abbrev pub item_count : Chart → ℕ
item_count c =
    state_count c.tree + junction_count c + transition_count c + statement_count c
    + length c.names.vars + length c.names.events

-- every count is within its limit
pub record IsWithinLimits (c : Chart) : Type 0 where
  pub states : state_count c.tree ≤ STATE_LIMIT
  pub depth : (s : ℕ) → s < state_count c.tree → length (ancestors c.tree s) ≤ STATE_DEPTH_LIMIT
  pub junctions : junction_count c ≤ JUNCTION_LIMIT
  pub transitions : transition_count c ≤ TRANSITION_LIMIT
  pub pairs : (count : ℕ) → ChartPairs c count → count ≤ PAIR_LIMIT
  pub vars : length c.names.vars ≤ VARIABLE_LIMIT
  pub events : length c.names.events ≤ EVENT_LIMIT
  pub items : item_count c ≤ ITEM_LIMIT
