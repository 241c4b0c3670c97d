-- No place is printed.
-- `x-same` says that x is the same for a part without its places.
use Rattle.std.proofs.Common.{◌≡◌, ℕ, ◌+◌, List, [], ◌∷◌, map, Some, None, Option, refl, ap, sym, ◌∙◌}
use Rattle.std.specs.List.{flat_map}
use Rattle.std.specs.Option.{option_map}
use Rattle.token_grammar.specs.declared.token.Kind.{Kind}
use Rattle.token_grammar.specs.declared.token.Span.{Span}
use Rattle.chart_tree.specs.declared.name.NameText.{NameText}
use Rattle.chart_tree.specs.declared.sort.InitText.{InitText}
use Rattle.chart_tree.specs.declared.sort.InitText.TheVariants as inits
use Rattle.chart_tree.specs.declared.chart.EventText.{EventText}
use Rattle.chart_tree.specs.Trees.{Var, Sort, FlagSort, NumberSort, Path, Expr, Lit, Flag, Name, Active, Unary}
use Rattle.chart_tree.specs.Trees.{Binary, Stmt, Assign, Send, Emit, Dest, ToState, ToJunction, Guard, Trans}
use Rattle.chart_tree.specs.Trees.{Junction, Parts, State, StateOf, States, NoState, MoreStates, Chart}
use Rattle.chart_print.specs.Pieces.{Piece, bytes_of}
use Rattle.chart_print.specs.Words.{step_pieces, path_pieces}
use Rattle.chart_print.specs.Expressions.{expr_precedence, expr_pieces}
use Rattle.chart_print.specs.Transitions.{target_pieces, stmt_pieces, block_stmt_pieces, block_pieces, unless_empty}
use Rattle.chart_print.specs.Transitions.{trigger_pieces, guard_pieces, condition_pieces, action_pieces, dest_pieces}
use Rattle.chart_print.specs.Transitions.{arrow_pieces, trans_pieces}
use Rattle.chart_print.specs.Declarations.{event_pieces, value_pieces, init_pieces, typed_pieces, var_pieces}
use Rattle.chart_print.specs.Canonical.{head_pieces, head_line, action_line, history_line, trans_line}
use Rattle.chart_print.specs.Canonical.{junction_trans_line, junction_pieces, actions_pieces, transitions_pieces}
use Rattle.chart_print.specs.Canonical.{parts_pieces, state_pieces, states_pieces, event_line, var_line, chart_pieces}
use Rattle.chart_print.specs.Canonical.{canonical}
use Rattle.chart_print.specs.Places.{unplaced_name, unplaced_path, unplaced_expr, unplaced_stmt, unplaced_block}
use Rattle.chart_print.specs.Places.{unplaced_dest, unplaced_guard, unplaced_trans, unplaced_junction}
use Rattle.chart_print.specs.Places.{unplaced_history, unplaced_parts, unplaced_state, unplaced_states}
use Rattle.chart_print.specs.Places.{unplaced_event, unplaced_init, unplaced_var, without_places}
use Rattle.chart_print.specs.Places.{AreSameApartFromPlaces}

-- what a change of each item doesn't change, it doesn't change of the list
flat_map-same : {X : Type 0} (f : X → List Piece) (change : X → X) → ((x : X) → f (change x) ≡ f x) → (xs : List X)
    → flat_map f (map change xs) ≡ flat_map f xs
flat_map-same f change same [] = refl
flat_map-same f change same (x ∷ xs) = rw (same x, flat_map-same f change same xs) refl

-- ---- words and expressions

step_pieces-same : (name : NameText) → step_pieces (unplaced_name name) ≡ step_pieces name
unfolding step_pieces
step_pieces-same name = refl

path_pieces-same : (path : Path) → path_pieces (unplaced_path path) ≡ path_pieces path
unfolding path_pieces
path_pieces-same [] = refl
path_pieces-same (first ∷ others) = rw (flat_map-same step_pieces unplaced_name step_pieces-same others) refl

precedence-same : (e : Expr) → expr_precedence (unplaced_expr e) ≡ expr_precedence e
precedence-same (Lit lit at) = refl
precedence-same (Flag value at) = refl
precedence-same (Name name) = refl
precedence-same (Active path at) = refl
precedence-same (Unary word e at) = refl
precedence-same (Binary word l r at) = refl

expr_pieces-same : (e : Expr) → expr_pieces (unplaced_expr e) ≡ expr_pieces e
unfolding expr_pieces
expr_pieces-same (Lit lit at) = refl
expr_pieces-same (Flag value at) = refl
expr_pieces-same (Name name) = refl
expr_pieces-same (Active path at) = rw (path_pieces-same path) refl
expr_pieces-same (Unary word e at) = rw (precedence-same e, expr_pieces-same e) refl
expr_pieces-same (Binary word l r at) =
    rw (precedence-same l, precedence-same r, expr_pieces-same l, expr_pieces-same r) refl

-- ---- statements and transitions

target_pieces-same : (to : Option Path) → target_pieces (option_map unplaced_path to) ≡ target_pieces to
unfolding target_pieces
target_pieces-same None = refl
target_pieces-same (Some path) = rw (path_pieces-same path) refl

stmt_pieces-same : (stmt : Stmt) → stmt_pieces (unplaced_stmt stmt) ≡ stmt_pieces stmt
unfolding stmt_pieces
stmt_pieces-same (Assign name value) = rw (expr_pieces-same value) refl
stmt_pieces-same (Send name to) = rw (target_pieces-same to) refl
stmt_pieces-same (Emit name) = refl

block_stmt_pieces-same : (stmt : Stmt) → block_stmt_pieces (unplaced_stmt stmt) ≡ block_stmt_pieces stmt
unfolding block_stmt_pieces
block_stmt_pieces-same stmt = rw (stmt_pieces-same stmt) refl

block_pieces-same : (stmts : List Stmt) → block_pieces (unplaced_block stmts) ≡ block_pieces stmts
unfolding block_pieces
block_pieces-same stmts = rw (flat_map-same block_stmt_pieces unplaced_stmt block_stmt_pieces-same stmts) refl

unless_empty-same : (stmts : List Stmt) (pieces : List Piece)
    → unless_empty (unplaced_block stmts) pieces ≡ unless_empty stmts pieces
unless_empty-same [] pieces = refl
unless_empty-same (stmt ∷ stmts) pieces = refl

trigger_pieces-same : (event : Option NameText) → trigger_pieces (option_map unplaced_name event) ≡ trigger_pieces event
unfolding trigger_pieces
trigger_pieces-same None = refl
trigger_pieces-same (Some name) = refl

guard_pieces-same : (guard : Option Guard) → guard_pieces (option_map unplaced_guard guard) ≡ guard_pieces guard
unfolding guard_pieces
guard_pieces-same None = refl
guard_pieces-same (Some guard) = rw (expr_pieces-same guard.expr) refl

condition_pieces-same : (stmts : List Stmt) → condition_pieces (unplaced_block stmts) ≡ condition_pieces stmts
unfolding condition_pieces
condition_pieces-same stmts = rw (block_pieces-same stmts) (unless_empty-same stmts _)

action_pieces-same : (stmts : List Stmt) → action_pieces (unplaced_block stmts) ≡ action_pieces stmts
unfolding action_pieces
action_pieces-same stmts = rw (block_pieces-same stmts) (unless_empty-same stmts _)

arrow_pieces-same : (dest : Dest) → arrow_pieces (unplaced_dest dest) ≡ arrow_pieces dest
unfolding arrow_pieces dest_pieces
arrow_pieces-same (ToState path) = rw (path_pieces-same path) refl
arrow_pieces-same (ToJunction name) = refl

trans_pieces-same : (trans : Trans) → trans_pieces (unplaced_trans trans) ≡ trans_pieces trans
unfolding trans_pieces
trans_pieces-same trans =
    rw (
      trigger_pieces-same trans.event,
      guard_pieces-same trans.guard,
      condition_pieces-same trans.cond,
      action_pieces-same trans.act,
      arrow_pieces-same trans.dest,
    ) refl

-- ---- junctions and states

action_line-same : (level : ℕ) (keyword : Kind) (stmts : List Stmt)
    → action_line level keyword (unplaced_block stmts) ≡ action_line level keyword stmts
unfolding action_line
action_line-same level keyword stmts = rw (block_pieces-same stmts) (unless_empty-same stmts _)

history_line-same : (level : ℕ) (history : Option Span)
    → history_line level (unplaced_history history) ≡ history_line level history
unfolding history_line
history_line-same level None = refl
history_line-same level (Some at) = refl

trans_line-same : (level : ℕ) (keyword : Kind) (trans : Trans)
    → trans_line level keyword (unplaced_trans trans) ≡ trans_line level keyword trans
unfolding trans_line
trans_line-same level keyword trans = rw (trans_pieces-same trans) refl

junction_trans_line-same : (level : ℕ) (trans : Trans)
    → junction_trans_line level (unplaced_trans trans) ≡ junction_trans_line level trans
unfolding junction_trans_line
junction_trans_line-same level trans = rw (trans_pieces-same trans) refl

junction_pieces-same : (level : ℕ) (junction : Junction)
    → junction_pieces level (unplaced_junction junction) ≡ junction_pieces level junction
unfolding junction_pieces head_line head_pieces
junction_pieces-same level junction =
    rw (flat_map-same (junction_trans_line (level + 1)) unplaced_trans
    (junction_trans_line-same (level + 1)) junction.list) refl

-- a list of transitions with their keyword
trans_lines-same : (level : ℕ) (keyword : Kind) (list : List Trans)
    → flat_map (trans_line level keyword) (map unplaced_trans list) ≡ flat_map (trans_line level keyword) list
trans_lines-same level keyword list =
    flat_map-same (trans_line level keyword) unplaced_trans (trans_line-same level keyword) list

parts_pieces-same : (level : ℕ) (parts : Parts) → parts_pieces level (unplaced_parts parts) ≡ parts_pieces level parts
unfolding parts_pieces actions_pieces transitions_pieces
parts_pieces-same level parts =
    rw (
      action_line-same level _ parts.entry,
      action_line-same level _ parts.during,
      action_line-same level _ parts.exit,
      history_line-same level parts.history,
      trans_lines-same level _ parts.default,
      trans_lines-same level _ parts.inner,
      trans_lines-same level _ parts.outer,
      flat_map-same (junction_pieces level) unplaced_junction (junction_pieces-same level) parts.junctions,
    ) refl

mutual
  unfolding state_pieces head_line head_pieces

  state_pieces-same : (level : ℕ) (state : State) → state_pieces level (unplaced_state state) ≡ state_pieces level state
  state_pieces-same level (StateOf parts states) =
      rw (parts_pieces-same (level + 1) parts, states_pieces-same (level + 1) states) refl

  states_pieces-same : (level : ℕ) (states : States)
      → states_pieces level (unplaced_states states) ≡ states_pieces level states
  states_pieces-same level NoState = refl
  states_pieces-same level (MoreStates state others) =
      rw (state_pieces-same level state, states_pieces-same level others) refl

-- ---- declarations and charts

event_line-same : (event : EventText) → event_line (unplaced_event event) ≡ event_line event
unfolding event_line event_pieces
event_line-same event = refl

init_pieces-same : (sort : Sort) (init : InitText) → init_pieces sort (unplaced_init init) ≡ init_pieces sort init
unfolding init_pieces value_pieces
init_pieces-same FlagSort (inits.Number negative lit at) = refl
init_pieces-same FlagSort (inits.Flag value at) = refl
init_pieces-same (NumberSort scale mode) (inits.Number negative lit at) = refl
init_pieces-same (NumberSort scale mode) (inits.Flag value at) = refl

var_line-same : (var : Var) → var_line (unplaced_var var) ≡ var_line var
unfolding var_line var_pieces typed_pieces
var_line-same var = rw (init_pieces-same var.sort var.init) refl

-- of a chart whose root is known
root-same : (events : List EventText) (vars : List Var) (root : State) → let c : Chart =
    record { events = events; vars = vars; root = root } in
    chart_pieces (without_places c) ≡ chart_pieces c
unfolding chart_pieces without_places head_line head_pieces
root-same events vars (StateOf parts states) =
    rw (
      flat_map-same event_line unplaced_event event_line-same events,
      flat_map-same var_line unplaced_var var_line-same vars,
      parts_pieces-same 1 parts,
      states_pieces-same 1 states,
    ) refl

-- a chart without its places has the same canonical text
pub canonical-same : (c : Chart) → canonical (without_places c) ≡ canonical c
unfolding canonical
canonical-same c = ap bytes_of (root-same c.events c.vars c.root)

-- so charts that are the same apart from their places have one
pub canonical-apart : (c d : Chart) → AreSameApartFromPlaces c d → canonical c ≡ canonical d
canonical-apart c d same = sym (canonical-same c) ∙ (ap canonical same ∙ canonical-same d)
