-- A chart text as a statechart text without any of the new words.
use Rattle.std.specs.Prelude.{List, [], ◌∷◌, map, Option, Some, None}
use Rattle.chart_tree.specs.declared.name.NameText.{NameText}
use Rattle.chart_tree.specs.declared.chart.EventText.{EventText}
use Rattle.chart_tree.specs.Trees as core
use Rattle.statechart_tree.specs.declared.declarations.SourceEvent.{SourceEvent}
use Rattle.statechart_tree.specs.Trees.{Expr, Lit, Flag, Name, Active, Unary, Binary, Stmt, Assign, Send, Emit, Trigger}
use Rattle.statechart_tree.specs.Trees.{Always, On, Guard, Trans, Junction, ActionWord, Entry, During, Exit, Action}
use Rattle.statechart_tree.specs.Trees.{Plain, Given, Var, Parts, State, StateOf, States, NoState, MoreStates, Statechart}

-- an expression
abbrev pub plain_expr : core.Expr → Expr
plain_expr (core.Lit lit at) = Lit lit at
plain_expr (core.Flag value at) = Flag value at
plain_expr (core.Name name) = Name (name ∷ [])
plain_expr (core.Active path at) = Active path at
plain_expr (core.Unary word e at) = Unary word (plain_expr e) at
plain_expr (core.Binary word l r at) = Binary word (plain_expr l) (plain_expr r) at

-- a statement; its target is a plain name
abbrev pub plain_stmt : core.Stmt → Stmt
plain_stmt (core.Assign name e) = Assign (name ∷ []) (plain_expr e)
plain_stmt (core.Send name to) = Send name to
plain_stmt (core.Emit name) = Emit name

-- the event of a transition
abbrev pub plain_trigger : Option NameText → Trigger
plain_trigger None = Always
plain_trigger (Some e) = On e

-- a guard, if there is one
abbrev pub plain_guard : Option core.Guard → Option Guard
plain_guard None = None
plain_guard (Some g) = Some (record { expr = plain_expr g.expr; at = g.at })

-- a transition has one case
abbrev pub plain_trans : core.Trans → Trans
plain_trans t = record {
  at = t.at;
  cases = record { trigger = plain_trigger t.event; guard = plain_guard t.guard } ∷ [];
  cond = map plain_stmt t.cond;
  act = map plain_stmt t.act;
  dest = t.dest;
}

-- a junction
abbrev pub plain_junction : core.Junction → Junction
plain_junction j = record { name = j.name; list = map plain_trans j.list }

-- a block behind a word
abbrev pub plain_action : ActionWord → List core.Stmt → Action
plain_action word stmts = record { words = word ∷ []; block = map plain_stmt stmts }

-- the declaration of a datum; its first value is written
abbrev pub plain_var : core.Var → Var
plain_var v = record { kind = v.kind; name = v.name; sort = Plain v.sort; init = Given v.init }

-- what a state has, with these data of its own
abbrev pub plain_parts : List core.Var → core.Parts → Parts
plain_parts vars p = record {
  name = p.name;
  comp = p.comp;
  vars = map plain_var vars;
  actions = plain_action Entry p.entry ∷ (plain_action During p.during ∷ (plain_action Exit p.exit ∷ []));
  history = p.history;
  outer = map plain_trans p.outer;
  inner = map plain_trans p.inner;
  default = map plain_trans p.default;
  junctions = map plain_junction p.junctions;
}

abbrev mutual
  -- a state with these data of its own
  pub plain_state : List core.Var → core.State → State
  plain_state vars (core.StateOf p states) = StateOf (plain_parts vars p) (plain_states states)

  -- states without data of their own
  pub plain_states : core.States → States
  plain_states core.NoState = NoState
  plain_states (core.MoreStates state others) = MoreStates (plain_state [] state) (plain_states others)

-- an event, which is no clock
abbrev pub plain_event : EventText → SourceEvent
plain_event e = record { kind = e.kind; name = e.name; period = None }

-- the data of the chart are those of the root
abbrev pub plain : core.Chart → Statechart
plain c = record {
  enumerations = [];
  constants = [];
  events = map plain_event c.events;
  functions = [];
  root = plain_state c.vars c.root;
}
