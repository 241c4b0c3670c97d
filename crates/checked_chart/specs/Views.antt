-- The parts of the code as definitions see them.
use Rattle.std.specs.Prelude.{List, map}
use Rattle.std.specs.Option.{option_map}
use Rattle.flow_base.specs.Lists.{items_of}
use Rattle.active_config.specs.Tree.{Tree}
use Rattle.actions.specs.declared.expr.Stmt.{Stmt}
use Rattle.actions.specs.Exprs as exprs
use Rattle.actions.specs.Names.{Names}
use Rattle.actions.specs.Trees.{expr_of, stmt_of}
use Rattle.checked_chart.specs.declared.parts.StateParts.{StateParts}
use Rattle.checked_chart.specs.declared.parts.Trans.{Trans}
use Rattle.checked_chart.specs.Chart as charts

-- statements of the code
abbrev pub block_seen : List Stmt → List exprs.Stmt
block_seen stmts = map stmt_of stmts

-- a transition of the code
abbrev pub trans_seen : Trans → charts.Trans
trans_seen t = record {
  event = t.event;
  guard = option_map expr_of t.guard;
  condition = block_seen (items_of t.cond);
  action = block_seen (items_of t.act);
  dest = t.dest;
}

-- a list of transitions of the code
abbrev pub list_seen : List Trans → List charts.Trans
list_seen list = map trans_seen list

-- what a state of the code does
abbrev pub node_seen : StateParts → charts.Node
node_seen parts = record {
  entry = block_seen (items_of parts.entry);
  during = block_seen (items_of parts.during);
  exit = block_seen (items_of parts.exit);
  outer = list_seen (items_of parts.outer);
  inner = list_seen (items_of parts.inner);
  default = list_seen (items_of parts.default);
  history = parts.history;
}

-- the chart of a tree, what is declared, a part for each state, and the lists of the junctions
abbrev pub chart_seen : Tree → Names → List StateParts → List (List Trans) → charts.Chart
chart_seen tree names states junctions = record {
  tree = tree;
  names = names;
  nodes = map node_seen states;
  junctions = map list_seen junctions;
}
