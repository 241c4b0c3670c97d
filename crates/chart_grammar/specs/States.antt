-- Junctions, states and charts.
use Rattle.std.specs.Prelude.{ℕ, zero, suc, Bool, true, false, not, ◌&&◌, ◌||◌, List, [], ◌∷◌, Option, Some, None}
use Rattle.std.specs.Prelude.{if◌then◌else◌}
use Rattle.token_grammar.specs.declared.token.Kind.{Kind}
use Rattle.token_grammar.specs.declared.token.Kind.TheVariants as kinds
use Rattle.token_grammar.specs.declared.token.Span.{Span}
use Rattle.token_grammar.specs.declared.fault.TokenFault.{TokenFault}
use Rattle.token_grammar.specs.declared.fault.TokenFault.TheVariants as faults
use Rattle.token_grammar.specs.Token.{Lexeme}
use Rattle.token_grammar.specs.Grammar.{Grammar, is, token, allowed, give, either, many_from, ◌>>=◌, ◌>>◌}
use Rattle.chart_tree.specs.declared.name.NameText.{NameText}
use Rattle.chart_tree.specs.declared.chart.EventText.{EventText}
use Rattle.chart_tree.specs.declared.state.CompText.{CompText}
use Rattle.chart_tree.specs.declared.state.CompText.TheVariants as comps
use Rattle.chart_tree.specs.Trees.{Stmt, Trans, Junction, Parts, State, StateOf, States, NoState, MoreStates, Var}
use Rattle.chart_tree.specs.Trees.{Chart}
use Rattle.chart_grammar.specs.Limits.{Limits, Counts, Counted, state_refused, junction_refused, after_state}
use Rattle.chart_grammar.specs.Limits.{after_junction, after_event, after_variable}
use Rattle.chart_grammar.specs.Words.{name}
use Rattle.chart_grammar.specs.Transitions.{block, after_stmts, trans_heads, junction_trans, keyword_trans}
use Rattle.chart_grammar.specs.Declarations.{event, variable, kind_heads}

-- ---- junctions

-- the values of what was counted
abbrev pub values : {X : Type 0} → List (Counted X) → List X
values [] = []
values (x ∷ xs) = x.value ∷ values xs

-- the counts after the last of them
abbrev pub counts_behind : {X : Type 0} → Counts → List (Counted X) → Counts
counts_behind n [] = n
counts_behind n (x ∷ xs) = counts_behind x.counts xs

-- trans*
unfoldable pub junction_list : Limits → Counts → Grammar (List (Counted Trans))
junction_list l n = many_from (λ z. trans_heads) (junction_trans l) (λ z t. t.counts) n

-- 'junction' NAME '{' trans* '}', where there is room for one more
unfoldable pub junction : Limits → Counts → Grammar (Counted Junction)
junction l n = do
  allowed (is kinds.Junction) (λ t. junction_refused l n) (token kinds.Junction)
  name ← name
  token kinds.OpenBrace
  list ← junction_list l (after_junction n)
  token kinds.CloseBrace
  give (record {
    value = record { name = name; list = values list };
    counts = counts_behind (after_junction n) list;
  })

-- the grammar of states, for the counts before them
abbrev pub StateGrammar : Type 1
StateGrammar = Counts → Grammar (Counted State)

-- ---- items of a state

-- what may stand in a state or a chart
pub data Item : Type 0 where
  Entry : List Stmt → Item
  During : List Stmt → Item
  Exit : List Stmt → Item
  History : Span → Item
  Outer : Trans → Item
  Inner : Trans → Item
  Default : Trans → Item
  JunctionItem : Junction → Item
  StateItem : State → Item
  EventItem : EventText → Item
  VarItem : Var → Item

-- which of the three actions there are so far, whether there is the word `history`, and how many things
pub record Seen : Type 0 where
  pub entry : Bool
  pub during : Bool
  pub exit : Bool
  pub history : Bool
  pub counts : Counts

-- nothing yet
abbrev pub nothing_seen : Counts → Seen
nothing_seen n = record { entry = false; during = false; exit = false; history = false; counts = n }

-- what has been seen once an item was read
abbrev pub after_item : Seen → Counted Item → Seen
after_item z x = elim x.value [
  | Entry block ↦ record z { entry = true; counts = x.counts }
  | During block ↦ record z { during = true; counts = x.counts }
  | Exit block ↦ record z { exit = true; counts = x.counts }
  | History at ↦ record z { history = true; counts = x.counts }
  | Outer t ↦ record z { counts = x.counts }
  | Inner t ↦ record z { counts = x.counts }
  | Default t ↦ record z { counts = x.counts }
  | JunctionItem j ↦ record z { counts = x.counts }
  | StateItem s ↦ record z { counts = x.counts }
  | EventItem e ↦ record z { counts = x.counts }
  | VarItem v ↦ record z { counts = x.counts }
]

-- an item that has been counted
abbrev pub counted_as : {X : Type 0} → (X → Item) → Counted X → Counted Item
counted_as item x = record { value = item x.value; counts = x.counts }

-- a keyword, and a block
unfoldable pub action_item
    : Limits → Kind → (List Stmt → Item) → Counts → Grammar (Counted Item)
action_item l keyword item n = do
  token keyword
  found ← block l n
  give (record { value = item found; counts = after_stmts n found })

-- 'history' ';', which counts as nothing
unfoldable pub history_item : Counts → Grammar (Counted Item)
history_item n = do
  t ← token kinds.History
  token kinds.Semicolon
  give (record { value = History t.at; counts = n })

-- a keyword, and a transition
unfoldable pub trans_item : Limits → Kind → (Trans → Item) → Counts → Grammar (Counted Item)
trans_item l keyword item n = do
  found ← keyword_trans l (is keyword) n
  give (counted_as item found)

-- a junction as an item
unfoldable pub junction_item : Limits → Counts → Grammar (Counted Item)
junction_item l n = do
  found ← junction l n
  give (counted_as JunctionItem found)

-- a declaration of an event as an item
unfoldable pub event_item : Limits → Counts → Grammar (Counted Item)
event_item l n = do
  found ← event l n
  give (record { value = EventItem found; counts = after_event n })

-- a declaration of a datum as an item
unfoldable pub variable_item : Limits → Counts → Grammar (Counted Item)
variable_item l n = do
  found ← variable l n
  give (record { value = VarItem found; counts = after_variable n })

-- what a state may have after what was seen: each of the three actions and `history` at most once
abbrev pub item_heads : Seen → Kind → Bool
item_heads z k =
    (is kinds.Entry k && not z.entry) || ((is kinds.During k && not z.during)
    || ((is kinds.Exit k && not z.exit) || ((is kinds.History k && not z.history)
    || (is kinds.Outer k || (is kinds.Inner k || (is kinds.Default k
    || (is kinds.Junction k || is kinds.State k)))))))

-- what the chart itself may have: no exit action and no outer transition, but declarations
abbrev pub chart_heads : Seen → Kind → Bool
chart_heads z k =
    (is kinds.Entry k && not z.entry) || ((is kinds.During k && not z.during)
    || ((is kinds.History k && not z.history)
    || (is kinds.Inner k || (is kinds.Default k || (is kinds.Junction k || (is kinds.State k
    || (is kinds.Event k || kind_heads k)))))))

-- item := ('entry' | 'during' | 'exit') block | ('outer' | 'inner' | 'default') trans
--     | 'history' ';' | junction | state
unfoldable pub item : Limits → StateGrammar → Seen → Grammar (Counted Item)
item l state z =
    either (is kinds.Entry) (action_item l kinds.Entry Entry z.counts)
    (either (is kinds.During) (action_item l kinds.During During z.counts)
    (either (is kinds.Exit) (action_item l kinds.Exit Exit z.counts)
    (either (is kinds.History) (history_item z.counts)
    (either (is kinds.Outer) (trans_item l kinds.Outer Outer z.counts)
    (either (is kinds.Inner) (trans_item l kinds.Inner Inner z.counts)
    (either (is kinds.Default) (trans_item l kinds.Default Default z.counts)
    (either (is kinds.Junction) (junction_item l z.counts)
    (state z.counts >>= λ found. give (counted_as StateItem found)))))))))

-- an item of the chart: as one of a state, with declarations and without exit actions and outer transitions
unfoldable pub chart_item : Limits → StateGrammar → Seen → Grammar (Counted Item)
chart_item l state z =
    either (is kinds.Entry) (action_item l kinds.Entry Entry z.counts)
    (either (is kinds.During) (action_item l kinds.During During z.counts)
    (either (is kinds.History) (history_item z.counts)
    (either (is kinds.Inner) (trans_item l kinds.Inner Inner z.counts)
    (either (is kinds.Default) (trans_item l kinds.Default Default z.counts)
    (either (is kinds.Junction) (junction_item l z.counts)
    (either (is kinds.Event) (event_item l z.counts)
    (either kind_heads (variable_item l z.counts)
    (state z.counts >>= λ found. give (counted_as StateItem found)))))))))

-- the fault of a token that isn't in the set
abbrev pub unexpected : (Kind → Bool) → Lexeme → Option TokenFault
unexpected set t = if set t.kind then None else Some faults.Expected

-- g, where it begins with a token of the set
abbrev pub beginning : {X : Type 0} → (Kind → Bool) → Grammar X → Grammar X
beginning set g = allowed (λ k. true) (unexpected set) g

-- an item where it may stand
abbrev pub next_item : Limits → StateGrammar → Seen → Grammar (Counted Item)
next_item l state z = beginning (item_heads z) (item l state z)

-- an item of the chart where it may stand
abbrev pub next_chart_item : Limits → StateGrammar → Seen → Grammar (Counted Item)
next_chart_item l state z = beginning (chart_heads z) (chart_item l state z)

-- item*
unfoldable pub items : Limits → StateGrammar → Seen → Grammar (List (Counted Item))
items l state z = many_from item_heads (next_item l state) after_item z

-- (decl | item)*
unfoldable pub chart_items : Limits → StateGrammar → Seen → Grammar (List (Counted Item))
chart_items l state z = many_from chart_heads (next_chart_item l state) after_item z

-- ---- a state's items in their lists

-- a state's parts and child states, and what the chart declares
pub record Sorted : Type 0 where
  pub parts : Parts
  pub states : States
  pub events : List EventText
  pub vars : List Var

-- a state without items
abbrev pub no_items : NameText → CompText → Sorted
no_items name comp = record {
  parts = record {
    name = name;
    comp = comp;
    entry = [];
    during = [];
    exit = [];
    history = None;
    outer = [];
    inner = [];
    default = [];
    junctions = [];
  };
  states = NoState;
  events = [];
  vars = [];
}

-- an item is put before those that follow it
abbrev pub put : Item → Sorted → Sorted
put (Entry block) s = record s { parts = record s.parts { entry = block } }
put (During block) s = record s { parts = record s.parts { during = block } }
put (Exit block) s = record s { parts = record s.parts { exit = block } }
put (History at) s = record s { parts = record s.parts { history = Some at } }
put (Outer t) s = record s { parts = record s.parts { outer = t ∷ s.parts.outer } }
put (Inner t) s = record s { parts = record s.parts { inner = t ∷ s.parts.inner } }
put (Default t) s = record s { parts = record s.parts { default = t ∷ s.parts.default } }
put (JunctionItem j) s = record s { parts = record s.parts { junctions = j ∷ s.parts.junctions } }
put (StateItem child) s = record s { states = MoreStates child s.states }
put (EventItem e) s = record s { events = e ∷ s.events }
put (VarItem v) s = record s { vars = v ∷ s.vars }

-- each list is in the order of the text
abbrev pub sorted : NameText → CompText → List Item → Sorted
sorted name comp [] = no_items name comp
sorted name comp (x ∷ xs) = put x (sorted name comp xs)

-- no word and child states make an OR
abbrev pub comp_with : CompText → States → CompText
comp_with comps.None NoState = comps.None
comp_with comps.None (MoreStates first others) = comps.Or
comp_with comps.Or states = comps.Or
comp_with comps.And states = comps.And

-- the state of its sorted items
abbrev pub state_with : Sorted → State
state_with s = StateOf (record s.parts { comp = comp_with s.parts.comp s.states }) s.states

-- ---- states and charts

-- 'or' | 'and'
abbrev pub comp_heads : Kind → Bool
comp_heads k = is kinds.Or k || is kinds.And k

-- 'or' | 'and'
unfoldable pub comp : Grammar CompText
comp = either (is kinds.Or) (token kinds.Or >> give comps.Or) (token kinds.And >> give comps.And)

-- a missing word is none
unfoldable pub maybe_comp : Grammar CompText
maybe_comp = either comp_heads comp (give comps.None)

-- what stands after the word `state`: NAME comp? '{' item* '}'
unfoldable pub state_body : Limits → StateGrammar → Counts → Grammar (Counted State)
state_body l state n = do
  name ← name
  comp ← maybe_comp
  token kinds.OpenBrace
  found ← items l state (nothing_seen n)
  token kinds.CloseBrace
  give (record {
    value = state_with (sorted name comp (values found));
    counts = counts_behind n found;
  })

-- 'state' NAME comp? '{' item* '}', with states nested in it
unfoldable pub state_over : Limits → StateGrammar → Counts → Grammar (Counted State)
state_over l state n = do
  allowed (is kinds.State) (λ t. state_refused l n) (token kinds.State)
  state_body l state (after_state n)

-- where no state may stand: a token that begins one is refused as nested too deep
unfoldable pub no_state : Counts → Grammar (Counted State)
no_state n = do
  allowed (is kinds.State) (λ t. Some faults.NestTooDeep) (token kinds.State)
  name ← name
  give (record { value = StateOf (no_items name comps.None).parts NoState; counts = n })

-- state := 'state' NAME comp? '{' item* '}', with states nested in it to the given depth at most
unfoldable pub state : Limits → ℕ → Counts → Grammar (Counted State)
state l zero n = no_state n
state l (suc deeper) n = state_over l (state l deeper) n

-- the chart's counts before its items: it is a state itself
abbrev pub at_begin : Counts
at_begin = record { states = 1; junctions = 0; transitions = 0; variables = 0; events = 0; items = 1 }

-- the chart of its sorted items
abbrev pub chart_with : Sorted → Chart
chart_with s = record { events = s.events; vars = s.vars; root = state_with s }

-- chart := 'chart' NAME comp? '{' (decl | item)* '}'
unfoldable pub chart : Limits → Grammar Chart
chart l = do
  token kinds.Chart
  name ← name
  comp ← maybe_comp
  token kinds.OpenBrace
  found ← chart_items l (state l l.depth) (nothing_seen at_begin)
  token kinds.CloseBrace
  give (chart_with (sorted name comp (values found)))
