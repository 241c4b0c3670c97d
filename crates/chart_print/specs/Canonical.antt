-- The canonical text of a chart: each item on a line of its own, two spaces deeper at each level.
use Rattle.std.specs.Prelude.{ℕ, ◌+◌, List, [], ◌++◌, Option, Some, None}
use Rattle.std.specs.List.{flat_map}
use Rattle.token_grammar.specs.declared.token.Kind.{Kind}
use Rattle.token_grammar.specs.declared.token.Kind.TheVariants as kinds
use Rattle.token_grammar.specs.declared.token.Span.{Span}
use Rattle.chart_tree.specs.declared.name.NameText.{NameText}
use Rattle.chart_tree.specs.declared.chart.EventText.{EventText}
use Rattle.chart_tree.specs.declared.state.CompText.{CompText}
use Rattle.chart_tree.specs.declared.state.CompText.TheVariants as comps
use Rattle.chart_tree.specs.Trees.{Stmt, Trans, Junction, Parts, State, StateOf, States, NoState, MoreStates, Var}
use Rattle.chart_tree.specs.Trees.{Chart}
use Rattle.chart_print.specs.Pieces.{Piece, bytes_of, key, space, line}
use Rattle.chart_print.specs.Words.{name_pieces}
use Rattle.chart_print.specs.Transitions.{block_pieces, unless_empty, trans_pieces}
use Rattle.chart_print.specs.Declarations.{event_pieces, var_pieces}

-- ---- lines

-- a line of a keyword and a block, where the block isn't empty
unfoldable pub action_line : ℕ → Kind → List Stmt → List Piece
action_line level keyword stmts =
    unless_empty stmts (line level (key keyword ++ space ++ block_pieces stmts))

-- the line of the word `history`, where that stands
unfoldable pub history_line : ℕ → Option Span → List Piece
history_line level None = []
history_line level (Some at) = line level (key kinds.History ++ key kinds.Semicolon)

-- a line of a keyword and a transition
unfoldable pub trans_line : ℕ → Kind → Trans → List Piece
trans_line level keyword trans = line level (key keyword ++ space ++ trans_pieces trans)

-- the line of a transition of a junction
unfoldable pub junction_trans_line : ℕ → Trans → List Piece
junction_trans_line level trans = line level (trans_pieces trans)

-- the line that ends a state, a junction or the chart
unfoldable pub end_line : ℕ → List Piece
end_line level = line level (key kinds.CloseBrace)

-- ---- junctions and states

-- the word of a composition, after a space, where there is one: 'or' | 'and'
unfoldable pub comp_pieces : CompText → List Piece
comp_pieces comps.None = []
comp_pieces comps.Or = space ++ key kinds.Or
comp_pieces comps.And = space ++ key kinds.And

-- how a state, a junction or the chart begins: a keyword, NAME comp? '{'
unfoldable pub head_pieces : Kind → NameText → CompText → List Piece
head_pieces keyword name comp =
    key keyword ++ space ++ name_pieces name ++ comp_pieces comp ++ space ++ key kinds.OpenBrace

-- the line that begins a state, a junction or the chart
unfoldable pub head_line : ℕ → Kind → NameText → CompText → List Piece
head_line level keyword name comp = line level (head_pieces keyword name comp)

-- a junction: 'junction' NAME '{' trans* '}'
unfoldable pub junction_pieces : ℕ → Junction → List Piece
junction_pieces level junction =
    head_line level kinds.Junction junction.name comps.None
    ++ flat_map (junction_trans_line (level + 1)) junction.list
    ++ end_line level

-- the actions of a state
unfoldable pub actions_pieces : ℕ → Parts → List Piece
actions_pieces level parts =
    action_line level kinds.Entry parts.entry
    ++ action_line level kinds.During parts.during
    ++ action_line level kinds.Exit parts.exit

-- the transitions of a state
unfoldable pub transitions_pieces : ℕ → Parts → List Piece
transitions_pieces level parts =
    flat_map (trans_line level kinds.Default) parts.default
    ++ flat_map (trans_line level kinds.Inner) parts.inner
    ++ flat_map (trans_line level kinds.Outer) parts.outer

-- the items of a state but for its child states
unfoldable pub parts_pieces : ℕ → Parts → List Piece
parts_pieces level parts =
    actions_pieces level parts
    ++ history_line level parts.history
    ++ transitions_pieces level parts
    ++ flat_map (junction_pieces level) parts.junctions

-- what a state has beside its child states
abbrev pub parts_in : State → Parts
parts_in (StateOf parts states) = parts

-- the child states of a state
abbrev pub states_in : State → States
states_in (StateOf parts states) = states

unfoldable mutual
  -- a state: 'state' NAME comp? '{' item* '}'
  pub state_pieces : ℕ → State → List Piece
  state_pieces level (StateOf parts states) =
      head_line level kinds.State parts.name parts.comp
      ++ parts_pieces (level + 1) parts
      ++ states_pieces (level + 1) states
      ++ end_line level

  -- states one after the other
  pub states_pieces : ℕ → States → List Piece
  states_pieces level NoState = []
  states_pieces level (MoreStates state others) =
      state_pieces level state ++ states_pieces level others

-- ---- charts

-- the line of an event
unfoldable pub event_line : EventText → List Piece
event_line event = line 1 (event_pieces event)

-- the line of a datum
unfoldable pub var_line : Var → List Piece
var_line var = line 1 (var_pieces var)

-- a chart: 'chart' NAME comp? '{' decl* item* '}'
unfoldable pub chart_pieces : Chart → List Piece
chart_pieces chart =
    head_line 0 kinds.Chart (parts_in chart.root).name (parts_in chart.root).comp
    ++ flat_map event_line chart.events
    ++ flat_map var_line chart.vars
    ++ parts_pieces 1 (parts_in chart.root)
    ++ states_pieces 1 (states_in chart.root)
    ++ end_line 0

-- the canonical text of a chart
unfoldable pub canonical : Chart → List ℕ
canonical chart = bytes_of (chart_pieces chart)
