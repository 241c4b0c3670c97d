-- Charts without the places of their parts.
use Rattle.std.specs.Prelude.{◌≡◌, List, map, Option}
use Rattle.std.specs.Option.{option_map}
use Rattle.token_grammar.specs.declared.token.Span.{Span}
use Rattle.chart_tree.specs.declared.name.NameText.{NameText}
use Rattle.chart_tree.specs.declared.sort.InitText.{InitText}
use Rattle.chart_tree.specs.declared.sort.InitText.TheVariants as inits
use Rattle.chart_tree.specs.declared.chart.EventText.{EventText}
use Rattle.chart_tree.specs.Trees.{Var, Path, Expr, Lit, Flag, Name, Active, Unary, Binary, Stmt, Assign, Send, Emit}
use Rattle.chart_tree.specs.Trees.{Dest, ToState, ToJunction, Guard, Trans, Junction, Parts, State, StateOf, States}
use Rattle.chart_tree.specs.Trees.{NoState, MoreStates, Chart}

-- the one place that is put in place of every place
abbrev pub nowhere : Span
nowhere = record { line = 0; column = 0 }

-- a name
abbrev pub unplaced_name : NameText → NameText
unplaced_name name = record { text = name.text; at = nowhere }

-- a path
abbrev pub unplaced_path : Path → Path
unplaced_path path = map unplaced_name path

-- an expression
abbrev pub unplaced_expr : Expr → Expr
unplaced_expr (Lit lit at) = Lit lit nowhere
unplaced_expr (Flag value at) = Flag value nowhere
unplaced_expr (Name name) = Name (unplaced_name name)
unplaced_expr (Active path at) = Active (unplaced_path path) nowhere
unplaced_expr (Unary word e at) = Unary word (unplaced_expr e) nowhere
unplaced_expr (Binary word l r at) = Binary word (unplaced_expr l) (unplaced_expr r) nowhere

-- a statement
abbrev pub unplaced_stmt : Stmt → Stmt
unplaced_stmt (Assign name value) = Assign (unplaced_name name) (unplaced_expr value)
unplaced_stmt (Send name to) = Send (unplaced_name name) (option_map unplaced_path to)
unplaced_stmt (Emit name) = Emit (unplaced_name name)

-- a block
abbrev pub unplaced_block : List Stmt → List Stmt
unplaced_block stmts = map unplaced_stmt stmts

-- a destination
abbrev pub unplaced_dest : Dest → Dest
unplaced_dest (ToState path) = ToState (unplaced_path path)
unplaced_dest (ToJunction name) = ToJunction (unplaced_name name)

-- a guard
abbrev pub unplaced_guard : Guard → Guard
unplaced_guard guard = record { expr = unplaced_expr guard.expr; at = nowhere }

-- a transition
abbrev pub unplaced_trans : Trans → Trans
unplaced_trans trans = record {
  at = nowhere;
  event = option_map unplaced_name trans.event;
  guard = option_map unplaced_guard trans.guard;
  cond = unplaced_block trans.cond;
  act = unplaced_block trans.act;
  dest = unplaced_dest trans.dest;
}

-- a junction
abbrev pub unplaced_junction : Junction → Junction
unplaced_junction junction = record {
  name = unplaced_name junction.name;
  list = map unplaced_trans junction.list;
}

-- the word `history`
abbrev pub unplaced_history : Option Span → Option Span
unplaced_history history = option_map (λ at. nowhere) history

-- what a state has beside its child states
abbrev pub unplaced_parts : Parts → Parts
unplaced_parts parts = record {
  name = unplaced_name parts.name;
  comp = parts.comp;
  entry = unplaced_block parts.entry;
  during = unplaced_block parts.during;
  exit = unplaced_block parts.exit;
  history = unplaced_history parts.history;
  outer = map unplaced_trans parts.outer;
  inner = map unplaced_trans parts.inner;
  default = map unplaced_trans parts.default;
  junctions = map unplaced_junction parts.junctions;
}

abbrev mutual
  -- a state
  pub unplaced_state : State → State
  unplaced_state (StateOf parts states) = StateOf (unplaced_parts parts) (unplaced_states states)

  -- states
  pub unplaced_states : States → States
  unplaced_states NoState = NoState
  unplaced_states (MoreStates state others) =
      MoreStates (unplaced_state state) (unplaced_states others)

-- the declaration of an event
abbrev pub unplaced_event : EventText → EventText
unplaced_event event = record { kind = event.kind; name = unplaced_name event.name }

-- a first value
abbrev pub unplaced_init : InitText → InitText
unplaced_init (inits.Number negative lit at) = inits.Number negative lit nowhere
unplaced_init (inits.Flag value at) = inits.Flag value nowhere

-- the declaration of a datum
abbrev pub unplaced_var : Var → Var
unplaced_var var = record {
  kind = var.kind;
  name = unplaced_name var.name;
  sort = var.sort;
  init = unplaced_init var.init;
}

-- a chart
unfoldable pub without_places : Chart → Chart
without_places chart = record {
  events = map unplaced_event chart.events;
  vars = map unplaced_var chart.vars;
  root = unplaced_state chart.root;
}

-- two charts are the same apart from their places
abbrev pub AreSameApartFromPlaces : Chart → Chart → Type 0
AreSameApartFromPlaces c d = without_places c ≡ without_places d
