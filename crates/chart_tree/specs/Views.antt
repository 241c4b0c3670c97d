-- Trees of the code as contracts see them.
use Rattle.std.specs.Prelude.{List, map}
use Rattle.std.specs.Option.{option_map}
use Rattle.flow_base.specs.Lists.{items_of}
use Rattle.chart_tree.specs.declared.name.PathText.{PathText}
use Rattle.chart_tree.specs.declared.sort.SortText.{SortText}
use Rattle.chart_tree.specs.declared.sort.SortText.TheVariants as sorts
use Rattle.chart_tree.specs.declared.chart.VarText.{VarText}
use Rattle.fixed_point.specs.declared.scale.Scale.{Scale}
use Rattle.chart_tree.specs.declared.expr.ExprText.{ExprText}
use Rattle.chart_tree.specs.declared.expr.ExprText.TheVariants as exprs
use Rattle.chart_tree.specs.declared.state.StmtText.{StmtText}
use Rattle.chart_tree.specs.declared.state.StmtText.TheVariants as stmts
use Rattle.chart_tree.specs.declared.state.DestText.{DestText}
use Rattle.chart_tree.specs.declared.state.DestText.TheVariants as dests
use Rattle.chart_tree.specs.declared.state.GuardText.{GuardText}
use Rattle.chart_tree.specs.declared.state.TransText.{TransText}
use Rattle.chart_tree.specs.declared.state.JunctionText.{JunctionText}
use Rattle.chart_tree.specs.declared.state.StateText.{StateText, StateText', Row_of-StateText}
use Rattle.chart_tree.specs.declared.state.StateText.{end_of-StateText, more_of-StateText}
use Rattle.chart_tree.specs.declared.chart.ChartText.{ChartText}
use Rattle.chart_tree.specs.Trees.{ScaleParts, Sort, FlagSort, NumberSort, Var, Path, Expr, Lit, Flag, Name}
use Rattle.chart_tree.specs.Trees.{Active, Unary, Binary, Stmt, Assign, Send, Emit, Dest, ToState, ToJunction}
use Rattle.chart_tree.specs.Trees.{Guard, Trans, Junction, State, StateOf, States, NoState, MoreStates, Chart}

-- the parts of a scale
abbrev pub parts_of : Scale → ScaleParts
parts_of s = record { signed = s.signed; width = s.width; frac = s.frac }

-- a type of the code
abbrev pub sort_of : SortText → Sort
sort_of sorts.Flag = FlagSort
sort_of (sorts.Number scale mode) = NumberSort (parts_of scale) mode

-- the declaration of a datum of the code
abbrev pub var_of : VarText → Var
var_of v = record { kind = v.kind; name = v.name; sort = sort_of v.sort; init = v.init }

-- a path of the code
abbrev pub path_of : PathText → Path
path_of p = items_of p.names

-- an expression of the code
abbrev pub expr_of : ExprText → Expr
expr_of (exprs.Lit lit at) = Lit lit at
expr_of (exprs.Flag value at) = Flag value at
expr_of (exprs.Name name) = Name name
expr_of (exprs.Active path at) = Active (path_of path) at
expr_of (exprs.Unary' word p e at) = Unary word (expr_of e) at
expr_of (exprs.Binary' word p l q r at) = Binary word (expr_of l) (expr_of r) at

-- a statement of the code
abbrev pub stmt_of : StmtText → Stmt
stmt_of (stmts.Assign name value) = Assign name (expr_of value)
stmt_of (stmts.Send name to) = Send name (option_map path_of to)
stmt_of (stmts.Emit name) = Emit name

-- statements of the code
abbrev pub block_of : List StmtText → List Stmt
block_of ss = map stmt_of ss

-- a destination of the code
abbrev pub dest_of : DestText → Dest
dest_of (dests.State path) = ToState (path_of path)
dest_of (dests.Junction name) = ToJunction name

-- a guard of the code
abbrev pub guard_of : GuardText → Guard
guard_of g = record { expr = expr_of g.expr; at = g.at }

-- a transition of the code
abbrev pub trans_of : TransText → Trans
trans_of t = record {
  at = t.at;
  event = t.event;
  guard = option_map guard_of t.guard;
  cond = block_of (items_of t.cond);
  act = block_of (items_of t.act);
  dest = dest_of t.dest;
}

-- a junction of the code
abbrev pub junction_of : JunctionText → Junction
junction_of j = record { name = j.name; list = map trans_of (items_of j.list) }

abbrev mutual
  -- a state of the code
  pub state_of : StateText → State
  state_of (StateText' name comp entry during exit history outer inner default junctions shape states) =
      StateOf (record {
        name = name;
        comp = comp;
        entry = block_of (items_of entry);
        during = block_of (items_of during);
        exit = block_of (items_of exit);
        history = history;
        outer = map trans_of (items_of outer);
        inner = map trans_of (items_of inner);
        default = map trans_of (items_of default);
        junctions = map junction_of (items_of junctions);
      }) (states_of states)

  -- states of the code
  pub states_of : {shape : _} → Row_of-StateText shape → States
  states_of end_of-StateText = NoState
  states_of (more_of-StateText state others) = MoreStates (state_of state) (states_of others)

-- a chart of the code
abbrev pub chart_of : ChartText → Chart
chart_of c = record { events = items_of c.events; vars = map var_of (items_of c.vars); root = state_of c.root }
