-- Junctions, actions, states and statecharts.
use Rattle.std.specs.Prelude.{ℕ, zero, suc, Bool, true, false, not, ◌&&◌, ◌||◌, List, [], ◌∷◌, ◌++◌, Option, Some, None}
use Rattle.std.specs.Prelude.{if◌then◌else◌}
use Rattle.token_grammar.specs.declared.token.Kind.{Kind}
use Rattle.token_grammar.specs.declared.token.Kind.TheVariants as kinds
use Rattle.token_grammar.specs.declared.token.Span.{Span}
use Rattle.token_grammar.specs.declared.fault.TokenFault.{TokenFault}
use Rattle.token_grammar.specs.declared.fault.TokenFault.TheVariants as faults
use Rattle.token_grammar.specs.Token.{Lexeme}
use Rattle.token_grammar.specs.Grammar.{Grammar, is, token, one_of, allowed, give, either, many_from, ◌>>=◌, ◌>>◌}
use Rattle.chart_tree.specs.declared.name.NameText.{NameText}
use Rattle.chart_tree.specs.declared.state.CompText.{CompText}
use Rattle.chart_tree.specs.declared.state.CompText.TheVariants as comps
use Rattle.chart_grammar.specs.Limits.{Limits, Counts, Counted, event_refused, state_refused, junction_refused}
use Rattle.chart_grammar.specs.Limits.{after_state, after_junction, after_event}
use Rattle.chart_grammar.specs.Words.{name}
use Rattle.chart_grammar.specs.Declarations.{kind_heads}
use Rattle.chart_grammar.specs.States.{values, counts_behind, maybe_comp, at_begin, unexpected, beginning}
use Rattle.statechart_lexer.specs.declared.words.Word.{Word}
use Rattle.statechart_lexer.specs.declared.words.Word.TheVariants as words
use Rattle.statechart_lexer.specs.Words.{word_of}
use Rattle.statechart_tree.specs.declared.declarations.SourceEvent.{SourceEvent}
use Rattle.statechart_tree.specs.Trees.{Case, Trans, Junction, ActionWord, Entry, During, Exit, OnCases, Action, Var}
use Rattle.statechart_tree.specs.Trees.{Enumeration, Constant, Function, Parts, State, StateOf, States, NoState}
use Rattle.statechart_tree.specs.Trees.{MoreStates, Statechart}
use Rattle.statechart_grammar.specs.Words.{just, is_among, other_word, word_in}
use Rattle.statechart_grammar.specs.Transitions.{block, after_stmts, when, trans_heads, junction_trans, keyword_trans}
use Rattle.statechart_grammar.specs.Declarations.{events, clock, variables, enumeration, constant, function}

-- ---- junctions

-- trans*
unfoldable pub junction_list : Limits → Counts → Grammar (List (Counted Trans))
junction_list l n = many_from (λ z. trans_heads) (junction_trans l) (λ z t. t.counts) n

-- 'junction' NAME '{' trans* '}', where there is room for one more
unfoldable pub junction : Limits → Counts → Grammar (Counted Junction)
junction l n = do
  allowed (is kinds.Junction) (λ t. junction_refused l n) (token kinds.Junction)
  name ← name
  token kinds.OpenBrace
  list ← junction_list l (after_junction n)
  token kinds.CloseBrace
  give (record {
    value = record { name = name; list = values list };
    counts = counts_behind (after_junction n) list;
  })

-- ---- actions

-- which of the three actions there are so far
pub record Done : Type 0 where
  pub entry : Bool
  pub during : Bool
  pub exit : Bool

-- one word more
abbrev pub after_word : Done → ActionWord → Done
after_word d Entry = record d { entry = true }
after_word d During = record d { during = true }
after_word d Exit = record d { exit = true }
after_word d (OnCases cases at) = d

-- the words of an action
abbrev pub after_words : Done → List ActionWord → Done
after_words d [] = d
after_words d (w ∷ ws) = after_words (after_word d w) ws

-- 'entry' | 'during' | 'exit'
abbrev pub plain_heads : Kind → Bool
plain_heads k = is kinds.Entry k || (is kinds.During k || is kinds.Exit k)

-- the action that a kind names
abbrev pub action_word : Kind → ActionWord
action_word k = if is kinds.Entry k then Entry else if is kinds.During k then During else Exit

-- 'entry' | 'during' | 'exit'
unfoldable pub plain_word : Grammar ActionWord
plain_word = do
  t ← one_of plain_heads
  give (action_word t.kind)

-- when, behind the word `on` at that place
unfoldable pub cases_word : Limits → Span → Grammar ActionWord
cases_word l at = do
  cases ← when l
  give (OnCases cases at)

-- 'on' when
unfoldable pub on_word : Limits → Grammar ActionWord
on_word l = do
  t ← word_in (just words.On)
  cases_word l t.at

-- action := 'entry' | 'during' | 'exit' | 'on' when
unfoldable pub any_word : Limits → Grammar ActionWord
any_word l = either plain_heads plain_word (on_word l)

-- what an action may begin with after what there is: each of the three at most once in a state
abbrev pub action_heads : Done → Kind → Bool
action_heads d k =
    (is kinds.Entry k && not d.entry) || ((is kinds.During k && not d.during)
    || ((is kinds.Exit k && not d.exit) || is kinds.Tick k))

-- an action where it may stand
abbrev pub next_word : Limits → Done → Grammar ActionWord
next_word l d = beginning (action_heads d) (any_word l)

-- ',' action
unfoldable pub another_word : Limits → Done → Grammar ActionWord
another_word l d = do
  token kinds.Comma
  next_word l d

-- (',' action)* block, behind the first action
unfoldable pub action_rest : Limits → Counts → Done → ActionWord → Grammar (Counted Action)
action_rest l n d first = do
  others ← many_from (λ z. is kinds.Comma) (another_word l) after_word (after_word d first)
  found ← block l n
  give (record { value = record { words = first ∷ others; block = found }; counts = after_stmts n found })

-- ---- items

-- the grammar of states, for the counts before them
abbrev pub StateGrammar : Type 1
StateGrammar = Counts → Grammar (Counted State)

-- what may stand in a state or a statechart
pub data Item : Type 0 where
  ActionItem : Action → Item
  HistoryItem : Span → Item
  OuterItem : Trans → Item
  InnerItem : Trans → Item
  DefaultItem : Trans → Item
  JunctionItem : Junction → Item
  StateItem : State → Item
  VarItems : List Var → Item
  EventItems : List SourceEvent → Item
  EnumerationItem : Enumeration → Item
  ConstantItem : Constant → Item
  FunctionItem : Function → Item

-- which of the three actions there are so far, whether there are the words `history` and `clock`, and how many things
pub record Seen : Type 0 where
  pub done : Done
  pub history : Bool
  pub clock : Bool
  pub counts : Counts

-- nothing is done. An exit action of the statechart itself counts as done, so that there is none
abbrev pub nothing_done : Bool → Done
nothing_done exit = record { entry = false; during = false; exit = exit }

-- nothing yet
abbrev pub nothing_seen : Bool → Counts → Seen
nothing_seen exit n = record { done = nothing_done exit; history = false; clock = false; counts = n }

-- whether one of the events is a clock
abbrev pub has_clock : List SourceEvent → Bool
has_clock [] = false
has_clock (e ∷ es) = elim e.period [ None ↦ has_clock es | Some period ↦ true ]

-- what has been seen once an item was read
abbrev pub after_item : Seen → Counted Item → Seen
after_item z x = elim x.value [
  | ActionItem a ↦ record z { done = after_words z.done a.words; counts = x.counts }
  | HistoryItem at ↦ record z { history = true; counts = x.counts }
  | OuterItem t ↦ record z { counts = x.counts }
  | InnerItem t ↦ record z { counts = x.counts }
  | DefaultItem t ↦ record z { counts = x.counts }
  | JunctionItem j ↦ record z { counts = x.counts }
  | StateItem s ↦ record z { counts = x.counts }
  | VarItems vs ↦ record z { counts = x.counts }
  | EventItems es ↦ record z { clock = z.clock || has_clock es; counts = x.counts }
  | EnumerationItem e ↦ record z { counts = x.counts }
  | ConstantItem c ↦ record z { counts = x.counts }
  | FunctionItem f ↦ record z { counts = x.counts }
]

-- an item that has been counted
abbrev pub counted_as : {X : Type 0} → (X → Item) → Counted X → Counted Item
counted_as item x = record { value = item x.value; counts = x.counts }

-- an item that counts as nothing
abbrev pub free_as : {X : Type 0} → (X → Item) → Counts → X → Counted Item
free_as item n x = record { value = item x; counts = n }

-- 'entry' | 'during' | 'exit', (',' action)* block
unfoldable pub plain_action : Limits → Seen → Grammar (Counted Item)
plain_action l z = do
  first ← plain_word
  found ← action_rest l z.counts z.done first
  give (counted_as ActionItem found)

-- when (',' action)* block, behind the word `on` at that place
unfoldable pub on_action : Limits → Seen → Span → Grammar (Counted Item)
on_action l z at = do
  first ← cases_word l at
  found ← action_rest l z.counts z.done first
  give (counted_as ActionItem found)

-- 'on' when (',' action)* block
unfoldable pub on_item : Limits → Seen → Grammar (Counted Item)
on_item l z = do
  t ← word_in (just words.On)
  on_action l z t.at

-- 'history' ';'
unfoldable pub history_item : Counts → Grammar (Counted Item)
history_item n = do
  t ← token kinds.History
  token kinds.Semicolon
  give (free_as HistoryItem n t.at)

-- a keyword, and a transition
unfoldable pub trans_item : Limits → Kind → (Trans → Item) → Counts → Grammar (Counted Item)
trans_item l keyword item n = do
  found ← keyword_trans l (is keyword) n
  give (counted_as item found)

-- a junction as an item
unfoldable pub junction_item : Limits → Counts → Grammar (Counted Item)
junction_item l n = do
  found ← junction l n
  give (counted_as JunctionItem found)

-- declarations of data as an item
unfoldable pub variable_items : Limits → (Kind → Bool) → Counts → Grammar (Counted Item)
variable_items l set n = do
  found ← variables l set n
  give (counted_as VarItems found)

-- declarations of events as an item
unfoldable pub event_items : Limits → Counts → Grammar (Counted Item)
event_items l n = do
  found ← events l n
  give (counted_as EventItems found)

-- behind the word `enum`
unfoldable pub enumeration_item : Limits → Counts → Grammar (Counted Item)
enumeration_item l n = do
  found ← enumeration l
  give (free_as EnumerationItem n found)

-- behind the word `constant`
unfoldable pub constant_item : Limits → Counts → Grammar (Counted Item)
constant_item l n = do
  found ← constant l
  give (free_as ConstantItem n found)

-- behind the word `clock`
unfoldable pub clock_item : Limits → Counts → Grammar (Counted Item)
clock_item l n = do
  found ← clock l
  give (free_as EventItems (after_event n) (found ∷ []))

-- behind the word `function`
unfoldable pub function_item : Limits → Counts → Grammar (Counted Item)
function_item l n = do
  found ← function l n
  give (counted_as FunctionItem found)

-- the words `constant`, `enum`, `function` and `on`, which may stand as often as one likes
abbrev pub is_often : Word → Bool
is_often w = just words.Constant w || (just words.Enum w || (just words.Function w || just words.On w))

-- the fault of a further word that begins no item of a statechart: a second clock, one event too many, or another word
abbrev pub item_word_refused : Limits → Seen → Lexeme → Option TokenFault
item_word_refused l z t =
    if is_among (just words.Clock) (word_of t.text)
    then (if z.clock then Some faults.Expected else event_refused l z.counts)
    else other_word is_often t

-- the first of two productions where a test holds, else the second
abbrev pub picked : {X : Type 0} → Bool → Grammar X → Grammar X → Grammar X
picked true g h = g
picked false g h = h

-- the item behind its word at that place
abbrev pub worded : Limits → Seen → Option Word → Span → Grammar (Counted Item)
worded l z word at =
    picked (is_among (just words.Enum) word) (enumeration_item l z.counts)
    (picked (is_among (just words.Constant) word) (constant_item l z.counts)
    (picked (is_among (just words.Clock) word) (clock_item l z.counts)
    (picked (is_among (just words.Function) word) (function_item l z.counts) (on_action l z at))))

-- enum | constant | clock | function | 'on' when (',' action)* block
unfoldable pub worded_item : Limits → Seen → Grammar (Counted Item)
worded_item l z = do
  t ← allowed (is kinds.Tick) (item_word_refused l z) (token kinds.Tick)
  worded l z (word_of t.text) t.at

-- what a state may have after what was seen
abbrev pub item_heads : Seen → Kind → Bool
item_heads z k =
    action_heads z.done k || ((is kinds.History k && not z.history)
    || (is kinds.Outer k || (is kinds.Inner k || (is kinds.Default k || (is kinds.Junction k
    || (is kinds.State k || is kinds.Local k))))))

-- what the statechart itself may have: no outer transition, but declarations of all kinds
abbrev pub chart_heads : Seen → Kind → Bool
chart_heads z k =
    action_heads z.done k || ((is kinds.History k && not z.history)
    || (is kinds.Inner k || (is kinds.Default k || (is kinds.Junction k
    || (is kinds.State k || (is kinds.Event k || kind_heads k))))))

-- item := action (',' action)* block | ('outer' | 'inner' | 'default') trans | 'history' ';' | junction | state,
-- or declarations of local data
unfoldable pub item : Limits → StateGrammar → Seen → Grammar (Counted Item)
item l state z =
    either plain_heads (plain_action l z)
    (either (is kinds.Tick) (on_item l z)
    (either (is kinds.History) (history_item z.counts)
    (either (is kinds.Outer) (trans_item l kinds.Outer OuterItem z.counts)
    (either (is kinds.Inner) (trans_item l kinds.Inner InnerItem z.counts)
    (either (is kinds.Default) (trans_item l kinds.Default DefaultItem z.counts)
    (either (is kinds.Junction) (junction_item l z.counts)
    (either (is kinds.Local) (variable_items l (is kinds.Local) z.counts)
    (state z.counts >>= λ found. give (counted_as StateItem found)))))))))

-- an item of the statechart: as one of a state, with declarations of all kinds and without exit actions and outer
-- transitions
unfoldable pub chart_item : Limits → StateGrammar → Seen → Grammar (Counted Item)
chart_item l state z =
    either plain_heads (plain_action l z)
    (either (is kinds.Tick) (worded_item l z)
    (either (is kinds.History) (history_item z.counts)
    (either (is kinds.Inner) (trans_item l kinds.Inner InnerItem z.counts)
    (either (is kinds.Default) (trans_item l kinds.Default DefaultItem z.counts)
    (either (is kinds.Junction) (junction_item l z.counts)
    (either (is kinds.Event) (event_items l z.counts)
    (either kind_heads (variable_items l kind_heads z.counts)
    (state z.counts >>= λ found. give (counted_as StateItem found)))))))))

-- an item where it may stand
abbrev pub next_item : Limits → StateGrammar → Seen → Grammar (Counted Item)
next_item l state z = beginning (item_heads z) (item l state z)

-- an item of the statechart where it may stand
abbrev pub next_chart_item : Limits → StateGrammar → Seen → Grammar (Counted Item)
next_chart_item l state z = beginning (chart_heads z) (chart_item l state z)

-- ('local' names ':' type ('=' init)? ';' | item)*
unfoldable pub items : Limits → StateGrammar → Seen → Grammar (List (Counted Item))
items l state z = many_from item_heads (next_item l state) after_item z

-- (decl | enum | constant | clock | function | item)*
unfoldable pub chart_items : Limits → StateGrammar → Seen → Grammar (List (Counted Item))
chart_items l state z = many_from chart_heads (next_chart_item l state) after_item z

-- ---- a state's items in their lists

-- a state's parts and child states, and what the statechart declares
pub record Sorted : Type 0 where
  pub parts : Parts
  pub states : States
  pub enumerations : List Enumeration
  pub constants : List Constant
  pub events : List SourceEvent
  pub functions : List Function

-- a state without items
abbrev pub no_items : NameText → CompText → Sorted
no_items name comp = record {
  parts = record {
    name = name;
    comp = comp;
    vars = [];
    actions = [];
    history = None;
    outer = [];
    inner = [];
    default = [];
    junctions = [];
  };
  states = NoState;
  enumerations = [];
  constants = [];
  events = [];
  functions = [];
}

-- an item is put before those that follow it
abbrev pub put : Item → Sorted → Sorted
put (ActionItem a) s = record s { parts = record s.parts { actions = a ∷ s.parts.actions } }
put (HistoryItem at) s = record s { parts = record s.parts { history = Some at } }
put (OuterItem t) s = record s { parts = record s.parts { outer = t ∷ s.parts.outer } }
put (InnerItem t) s = record s { parts = record s.parts { inner = t ∷ s.parts.inner } }
put (DefaultItem t) s = record s { parts = record s.parts { default = t ∷ s.parts.default } }
put (JunctionItem j) s = record s { parts = record s.parts { junctions = j ∷ s.parts.junctions } }
put (StateItem child) s = record s { states = MoreStates child s.states }
put (VarItems vs) s = record s { parts = record s.parts { vars = vs ++ s.parts.vars } }
put (EventItems es) s = record s { events = es ++ s.events }
put (EnumerationItem e) s = record s { enumerations = e ∷ s.enumerations }
put (ConstantItem c) s = record s { constants = c ∷ s.constants }
put (FunctionItem f) s = record s { functions = f ∷ s.functions }

-- each list is in the order of the text
abbrev pub sorted : NameText → CompText → List Item → Sorted
sorted name comp [] = no_items name comp
sorted name comp (x ∷ xs) = put x (sorted name comp xs)

-- no word and child states make an OR
abbrev pub comp_with : CompText → States → CompText
comp_with comps.None NoState = comps.None
comp_with comps.None (MoreStates first others) = comps.Or
comp_with comps.Or states = comps.Or
comp_with comps.And states = comps.And

-- the state of its sorted items
abbrev pub state_with : Sorted → State
state_with s = StateOf (record s.parts { comp = comp_with s.parts.comp s.states }) s.states

-- ---- states and statecharts

-- what stands after the word `state`: NAME comp? '{' ('local' names ':' type ('=' init)? ';' | item)* '}'
unfoldable pub state_body : Limits → StateGrammar → Counts → Grammar (Counted State)
state_body l state n = do
  name ← name
  comp ← maybe_comp
  token kinds.OpenBrace
  found ← items l state (nothing_seen false n)
  token kinds.CloseBrace
  give (record {
    value = state_with (sorted name comp (values found));
    counts = counts_behind n found;
  })

-- 'state' and its body, with states nested in it
unfoldable pub state_over : Limits → StateGrammar → Counts → Grammar (Counted State)
state_over l state n = do
  allowed (is kinds.State) (λ t. state_refused l n) (token kinds.State)
  state_body l state (after_state n)

-- where no state may stand: a token that begins one is refused as nested too deep
unfoldable pub no_state : Counts → Grammar (Counted State)
no_state n = do
  allowed (is kinds.State) (λ t. Some faults.NestTooDeep) (token kinds.State)
  name ← name
  give (record { value = StateOf (no_items name comps.None).parts NoState; counts = n })

-- state := 'state' NAME comp? '{' ('local' names ':' type ('=' init)? ';' | item)* '}', with states nested in it to the
-- given depth at most
unfoldable pub state : Limits → ℕ → Counts → Grammar (Counted State)
state l zero n = no_state n
state l (suc deeper) n = state_over l (state l deeper) n

-- the statechart of its sorted items
abbrev pub statechart_with : Sorted → Statechart
statechart_with s = record {
  enumerations = s.enumerations;
  constants = s.constants;
  events = s.events;
  functions = s.functions;
  root = state_with s;
}

-- text := 'statechart' NAME comp? '{' (decl | enum | constant | clock | function | item)* '}'
unfoldable pub statechart : Limits → Grammar Statechart
statechart l = do
  word_in (just words.Statechart)
  name ← name
  comp ← maybe_comp
  token kinds.OpenBrace
  found ← chart_items l (state l l.depth) (nothing_seen true at_begin)
  token kinds.CloseBrace
  give (statechart_with (sorted name comp (values found)))
