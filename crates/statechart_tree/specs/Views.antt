-- Trees of the code as contracts see them.
use Rattle.std.specs.Prelude.{List, [], ◌∷◌, map}
use Rattle.std.specs.Option.{option_map}
use Rattle.flow_base.specs.Lists.{items_of}
use Rattle.chart_tree.specs.Views as core
use Rattle.statechart_tree.specs.declared.expr.SourceExpr.{SourceExpr, Row_of-SourceExpr}
use Rattle.statechart_tree.specs.declared.expr.SourceExpr.{end_of-SourceExpr, more_of-SourceExpr}
use Rattle.statechart_tree.specs.declared.expr.SourceExpr.TheVariants as exprs
use Rattle.statechart_tree.specs.declared.stmt.SourceStmt.{SourceStmt}
use Rattle.statechart_tree.specs.declared.stmt.SourceStmt.TheVariants as stmts
use Rattle.statechart_tree.specs.declared.sort.SourceSort.{SourceSort}
use Rattle.statechart_tree.specs.declared.sort.SourceSort.TheVariants as sorts
use Rattle.statechart_tree.specs.declared.sort.FirstValue.{FirstValue}
use Rattle.statechart_tree.specs.declared.sort.FirstValue.TheVariants as firsts
use Rattle.statechart_tree.specs.declared.sort.SourceVar.{SourceVar}
use Rattle.statechart_tree.specs.declared.declarations.Enumeration as enumerations
use Rattle.statechart_tree.specs.declared.declarations.Constant as constants
use Rattle.statechart_tree.specs.declared.declarations.FunctionBody.{FunctionBody}
use Rattle.statechart_tree.specs.declared.declarations.FunctionBody.TheVariants as bodies
use Rattle.statechart_tree.specs.declared.declarations.Function as functions
use Rattle.statechart_tree.specs.declared.state.Trigger as triggers
use Rattle.statechart_tree.specs.declared.state.Trigger.TheVariants as trigger_words
use Rattle.statechart_tree.specs.declared.state.SourceGuard.{SourceGuard}
use Rattle.statechart_tree.specs.declared.state.Case as cases
use Rattle.statechart_tree.specs.declared.state.SourceTrans.{SourceTrans}
use Rattle.statechart_tree.specs.declared.state.SourceJunction.{SourceJunction}
use Rattle.statechart_tree.specs.declared.state.ActionWord as words
use Rattle.statechart_tree.specs.declared.state.ActionWord.TheVariants as action_words
use Rattle.statechart_tree.specs.declared.state.SourceAction.{SourceAction}
use Rattle.statechart_tree.specs.declared.state.StateParts.{StateParts}
use Rattle.statechart_tree.specs.declared.state.SourceState.{SourceState, SourceState', Row_of-SourceState}
use Rattle.statechart_tree.specs.declared.state.SourceState.{end_of-SourceState, more_of-SourceState}
use Rattle.statechart_tree.specs.declared.statechart.Statechart as statecharts
use Rattle.statechart_tree.specs.Trees.{Expr, Lit, Flag, Name, Active, Count, Timed, Call, Unary, Binary, Exprs, NoExpr}
use Rattle.statechart_tree.specs.Trees.{MoreExprs, Stmt, Assign, Update, Step, Send, Emit, Raise, Invoke, Trigger}
use Rattle.statechart_tree.specs.Trees.{Always, On, AtTime, Every, Guard, Case, Trans, Junction, ActionWord, Entry, During, Exit}
use Rattle.statechart_tree.specs.Trees.{OnCases, Action, Sort, Plain, OfEnumeration, First, Missing, Given, Named, Var}
use Rattle.statechart_tree.specs.Trees.{Enumeration, Constant, Body, Block, Value, Function, Parts, State, StateOf}
use Rattle.statechart_tree.specs.Trees.{States, NoState, MoreStates, Statechart}

abbrev mutual
  -- an expression of the code
  pub expr_of : SourceExpr → Expr
  expr_of (exprs.Lit lit at) = Lit lit at
  expr_of (exprs.Flag value at) = Flag value at
  expr_of (exprs.Name path) = Name (core.path_of path)
  expr_of (exprs.Active path at) = Active (core.path_of path) at
  expr_of (exprs.Count event at) = Count event at
  expr_of (exprs.Timed' word p n event at) = Timed word (expr_of n) event at
  expr_of (exprs.Call' name shape arguments) = Call name (exprs_of arguments)
  expr_of (exprs.Unary' word p e at) = Unary word (expr_of e) at
  expr_of (exprs.Binary' word p l q r at) = Binary word (expr_of l) (expr_of r) at

  -- expressions of the code
  pub exprs_of : {shape : _} → Row_of-SourceExpr shape → Exprs
  exprs_of end_of-SourceExpr = NoExpr
  exprs_of (more_of-SourceExpr e others) = MoreExprs (expr_of e) (exprs_of others)

-- expressions in a list
abbrev pub row_of : List Expr → Exprs
row_of [] = NoExpr
row_of (e ∷ es) = MoreExprs e (row_of es)

-- a statement of the code
abbrev pub stmt_of : SourceStmt → Stmt
stmt_of (stmts.Assign target value) = Assign (core.path_of target) (expr_of value)
stmt_of (stmts.Update target word value at) = Update (core.path_of target) word (expr_of value) at
stmt_of (stmts.Step target word at) = Step (core.path_of target) word at
stmt_of (stmts.Send event to) = Send event (option_map core.path_of to)
stmt_of (stmts.Emit event) = Emit event
stmt_of (stmts.Raise event) = Raise event
stmt_of (stmts.Call name arguments) = Invoke name (row_of (map expr_of (items_of arguments)))

-- statements of the code
abbrev pub block_of : List SourceStmt → List Stmt
block_of ss = map stmt_of ss

-- the event of a case of the code
abbrev pub trigger_of : triggers.Trigger → Trigger
trigger_of trigger_words.Always = Always
trigger_of (trigger_words.On event) = On event
trigger_of (trigger_words.Timed word n event at) = AtTime word (expr_of n) event at
trigger_of (trigger_words.Every n event at) = Every (expr_of n) event at

-- a guard of the code
abbrev pub guard_of : SourceGuard → Guard
guard_of g = record { expr = expr_of g.expr; at = g.at }

-- a case of the code
abbrev pub case_of : cases.Case → Case
case_of c = record { trigger = trigger_of c.trigger; guard = option_map guard_of c.guard }

-- a transition of the code
abbrev pub trans_of : SourceTrans → Trans
trans_of t = record {
  at = t.at;
  cases = map case_of (items_of t.cases);
  cond = block_of (items_of t.cond);
  act = block_of (items_of t.act);
  dest = core.dest_of t.dest;
}

-- a junction of the code
abbrev pub junction_of : SourceJunction → Junction
junction_of j = record { name = j.name; list = map trans_of (items_of j.list) }

-- a word before a block of the code
abbrev pub word_of : words.ActionWord → ActionWord
word_of action_words.Entry = Entry
word_of action_words.During = During
word_of action_words.Exit = Exit
word_of (action_words.On cs at) = OnCases (map case_of (items_of cs)) at

-- an action of the code
abbrev pub action_of : SourceAction → Action
action_of a = record { words = map word_of (items_of a.words); block = block_of (items_of a.block) }

-- a sort of the code
abbrev pub sort_of : SourceSort → Sort
sort_of (sorts.Plain sort) = Plain (core.sort_of sort)
sort_of (sorts.Named name) = OfEnumeration name

-- a first value of the code
abbrev pub first_of : FirstValue → First
first_of firsts.Missing = Missing
first_of (firsts.Given init) = Given init
first_of (firsts.Named negative name at) = Named negative (core.path_of name) at

-- the declaration of a datum of the code
abbrev pub var_of : SourceVar → Var
var_of v = record { kind = v.kind; name = v.name; sort = sort_of v.sort; init = first_of v.init }

-- an enumeration of the code
abbrev pub enumeration_of : enumerations.Enumeration → Enumeration
enumeration_of e = record { name = e.name; members = items_of e.members }

-- a constant of the code
abbrev pub constant_of : constants.Constant → Constant
constant_of c = record { name = c.name; sort = option_map sort_of c.sort; value = first_of c.value }

-- what a function of the code stands for
abbrev pub body_of : FunctionBody → Body
body_of (bodies.Block stmts) = Block (block_of (items_of stmts))
body_of (bodies.Value e) = Value (expr_of e)

-- a function of the code
abbrev pub function_of : functions.Function → Function
function_of f = record { name = f.name; params = items_of f.params; body = body_of f.body }

-- what a state of the code has beside its child states
abbrev pub parts_of : StateParts → Parts
parts_of p = record {
  name = p.name;
  comp = p.comp;
  vars = map var_of (items_of p.vars);
  actions = map action_of (items_of p.actions);
  history = p.history;
  outer = map trans_of (items_of p.outer);
  inner = map trans_of (items_of p.inner);
  default = map trans_of (items_of p.default);
  junctions = map junction_of (items_of p.junctions);
}

abbrev mutual
  -- a state of the code
  pub state_of : SourceState → State
  state_of (SourceState' parts shape states) = StateOf (parts_of parts) (states_of states)

  -- states of the code
  pub states_of : {shape : _} → Row_of-SourceState shape → States
  states_of end_of-SourceState = NoState
  states_of (more_of-SourceState state others) = MoreStates (state_of state) (states_of others)

-- a statechart of the code
abbrev pub statechart_of : statecharts.Statechart → Statechart
statechart_of x = record {
  enumerations = map enumeration_of (items_of x.enumerations);
  constants = map constant_of (items_of x.constants);
  events = items_of x.events;
  functions = map function_of (items_of x.functions);
  root = state_of x.root;
}
