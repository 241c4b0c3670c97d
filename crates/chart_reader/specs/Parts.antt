-- Parts of productions that the reader reads by methods of their own. What is made of a part is given, so that
-- the production is read as it stands.
use Rattle.std.specs.Prelude.{List, Option}
use Rattle.token_grammar.specs.declared.token.Kind.{Kind}
use Rattle.token_grammar.specs.declared.token.Kind.TheVariants as kinds
use Rattle.token_grammar.specs.declared.token.Span.{Span}
use Rattle.token_grammar.specs.Grammar.{Grammar, token, give, ◌>>=◌, ◌>>◌}
use Rattle.chart_tree.specs.declared.name.NameText.{NameText}
use Rattle.chart_tree.specs.declared.chart.VarWord.{VarWord}
use Rattle.chart_tree.specs.declared.state.CompText.{CompText}
use Rattle.chart_tree.specs.Trees.{Stmt, Dest, Guard, Trans, State, Var}
use Rattle.chart_grammar.specs.Limits.{Counts, Counted, usual}
use Rattle.chart_grammar.specs.Types.{sort}
use Rattle.chart_grammar.specs.Declarations.{maybe_init}
use Rattle.chart_grammar.specs.Transitions.{dest, maybe_block, maybe_action, after_stmts}
use Rattle.chart_grammar.specs.Words.{name}
use Rattle.chart_grammar.specs.States.{Item, Entry, During, Exit, Outer, Inner, Default, StateItem, counted_as}
use Rattle.chart_grammar.specs.States.{maybe_comp}

-- a token of that kind, after which the value is given
abbrev pub closed_by : {X : Type 0} → Kind → X → Grammar X
closed_by kind value = do
  token kind
  give value

-- a value with those counts
abbrev pub counted : {X : Type 0} → Counts → X → Counted X
counted n x = record { value = x; counts = n }

-- '->' dest ';'
unfoldable pub arrow_dest : {X : Type 0} → (Dest → X) → Grammar X
arrow_dest make = do
  token kinds.Arrow
  dest ← dest
  token kinds.Semicolon
  give (make dest)

-- block? ('/' block)? '->' dest ';': a transition after its event and its guard
unfoldable pub trans_rest : Counts → Span → Option NameText → Option Guard → Grammar (Counted Trans)
trans_rest n at event guard = do
  cond ← maybe_block usual n
  act ← maybe_action usual (after_stmts n cond)
  arrow_dest (λ dest. record {
    value = record { at = at; event = event; guard = guard; cond = cond; act = act; dest = dest };
    counts = after_stmts (after_stmts n cond) act;
  })

-- ':' type ('=' init)? ';': the declaration of a datum after its word and its name
unfoldable pub variable_rest : VarWord → NameText → Grammar Var
variable_rest word name = do
  token kinds.Colon
  sort ← sort
  init ← maybe_init usual sort name.at
  token kinds.Semicolon
  give (record { kind = word; name = name; sort = sort; init = init })

-- NAME comp? '{': what stands before the items of a state or the chart
unfoldable pub head : Grammar (NameText × CompText)
head = do
  name ← name
  comp ← maybe_comp
  token kinds.OpenBrace
  give (name, comp)

-- a state as an item
abbrev pub state_item : Grammar (Counted State) → Grammar (Counted Item)
state_item state = state >>= λ found. give (counted_as StateItem found)

-- the action that its keyword names: `entry`, `during` or else `exit`
abbrev pub action_named : Kind → List Stmt → Item
action_named kinds.Entry = Entry
action_named kinds.During = During
action_named _ = Exit

-- the transition that its keyword names: `outer`, `inner` or else `default`
abbrev pub trans_named : Kind → Trans → Item
trans_named kinds.Outer = Outer
trans_named kinds.Inner = Inner
trans_named _ = Default
