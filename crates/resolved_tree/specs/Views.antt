-- Resolved charts of the code as definitions see them.
use Rattle.std.specs.Prelude.{List, map}
use Rattle.std.specs.Option.{option_map}
use Rattle.flow_base.specs.Lists.{items_of}
use Rattle.actions.specs.Names.{names_of}
use Rattle.resolved_tree.specs.declared.resolved.ResolvedExpr.{ResolvedExpr}
use Rattle.resolved_tree.specs.declared.resolved.ResolvedExpr.TheVariants as exprs
use Rattle.resolved_tree.specs.declared.resolved.ResolvedStmt.{ResolvedStmt}
use Rattle.resolved_tree.specs.declared.resolved.ResolvedStmt.TheVariants as stmts
use Rattle.resolved_tree.specs.declared.resolved.ResolvedGuard.{ResolvedGuard}
use Rattle.resolved_tree.specs.declared.resolved.ResolvedTrans.{ResolvedTrans}
use Rattle.resolved_tree.specs.declared.resolved.ResolvedJunction.{ResolvedJunction}
use Rattle.resolved_tree.specs.declared.resolved.ResolvedState.{ResolvedState}
use Rattle.resolved_tree.specs.declared.resolved.Resolved as code
use Rattle.resolved_tree.specs.Resolved.{Expr, Lit, Flag, Name, Active, Unary, Binary, Stmt, Assign, Send, Emit}
use Rattle.resolved_tree.specs.Resolved.{Guard, Trans, Junction, State, Resolved}

-- an expression of the code
abbrev pub expr_of : ResolvedExpr → Expr
expr_of (exprs.Lit lit at) = Lit lit at
expr_of (exprs.Flag value at) = Flag value at
expr_of (exprs.Name datum) = Name datum
expr_of (exprs.Active state at) = Active state at
expr_of (exprs.Unary' word p e at) = Unary word (expr_of e) at
expr_of (exprs.Binary' word p l q r at) = Binary word (expr_of l) (expr_of r) at

-- a statement of the code
abbrev pub stmt_of : ResolvedStmt → Stmt
stmt_of (stmts.Assign datum value) = Assign datum (expr_of value)
stmt_of (stmts.Send event to) = Send event to
stmt_of (stmts.Emit event) = Emit event

-- statements of the code
abbrev pub block_of : List ResolvedStmt → List Stmt
block_of ss = map stmt_of ss

-- a guard of the code
abbrev pub guard_of : ResolvedGuard → Guard
guard_of g = record { expr = expr_of g.expr; at = g.at }

-- a transition of the code
abbrev pub trans_of : ResolvedTrans → Trans
trans_of t = record {
  at = t.at;
  event = t.event;
  guard = option_map guard_of t.guard;
  cond = block_of (items_of t.cond);
  act = block_of (items_of t.act);
  dest = t.dest;
}

-- transitions of the code
abbrev pub list_of : List ResolvedTrans → List Trans
list_of ts = map trans_of ts

-- a junction of the code
abbrev pub junction_of : ResolvedJunction → Junction
junction_of j = record { at = j.at; list = list_of (items_of j.list) }

-- a state of the code
abbrev pub state_of : ResolvedState → State
state_of s = record {
  at = s.at;
  word = s.word;
  history = s.history;
  entry = block_of (items_of s.entry);
  during = block_of (items_of s.during);
  exit = block_of (items_of s.exit);
  outer = list_of (items_of s.outer);
  inner = list_of (items_of s.inner);
  default = list_of (items_of s.default);
}

-- a resolved chart of the code
abbrev pub resolved_of : code.Resolved → Resolved
resolved_of r = record {
  tree = r.shape;
  names = names_of r.names;
  inits = items_of r.inits;
  states = map state_of (items_of r.states);
  junctions = map junction_of (items_of r.junctions);
}
