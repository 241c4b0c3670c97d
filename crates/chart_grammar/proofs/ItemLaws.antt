-- Junctions and the items of states read as they spell.
-- `fine_x` says of the production x that it is LL(1): with its FIRST set, whether it is nullable, and the kinds that
-- may
-- go on with what is read, which its FOLLOW must not have. `good_x` says so of one of which limits may leave no
-- spelling.
use Rattle.std.proofs.Common.{◌≡◌, Bool, true, false, List, refl, ◌||◌}
use Rattle.token_grammar.specs.declared.token.Kind.{Kind}
use Rattle.token_grammar.specs.declared.token.Kind.TheVariants as kinds
use Rattle.token_grammar.specs.Grammar.{is, give, ◌>>=◌}
use Rattle.token_grammar.proofs.Good.{Set, nothing, also, Good}
use Rattle.token_grammar.proofs.Sets.{subset}
use Rattle.token_grammar.proofs.Leaves.{good_token}
use Rattle.token_grammar.proofs.Allowed.{good_allowed}
use Rattle.token_grammar.proofs.Fine.{Fine, fine_token, fine_give, fine_then, good_then, good_either, fine_many_from}
use Rattle.token_grammar.proofs.Fine.{good_as, fine_as}
use Rattle.chart_tree.specs.Trees.{Stmt, Trans}
use Rattle.chart_grammar.specs.Limits.{Limits, Counts, Counted, junction_refused, after_junction, after_event}
use Rattle.chart_grammar.specs.Limits.{after_variable}
use Rattle.chart_grammar.specs.Transitions.{block, after_stmts, trans_heads}
use Rattle.chart_grammar.specs.Declarations.{kind_heads}
use Rattle.chart_grammar.specs.States.{values, counts_behind, junction_list, junction, StateGrammar, Item, Entry}
use Rattle.chart_grammar.specs.States.{During, Exit, History, Outer, Inner, Default, JunctionItem, StateItem}
use Rattle.chart_grammar.specs.States.{EventItem, VarItem, Seen, after_item, counted_as, action_item, history_item}
use Rattle.chart_grammar.specs.States.{trans_item, junction_item, event_item, variable_item, item_heads, chart_heads}
use Rattle.chart_grammar.specs.States.{item, chart_item, next_item, next_chart_item, items, chart_items}
use Rattle.chart_grammar.proofs.SetLaws.{good_clean, same_set, good_beginning}
use Rattle.chart_grammar.proofs.WordLaws.{fine_name}
use Rattle.chart_grammar.proofs.TransitionLaws.{fine_block, good_junction_trans, good_keyword_trans}
use Rattle.chart_grammar.proofs.DeclarationLaws.{good_event, good_variable}

-- ---- junctions

pub fine_junction_list : (l : Limits) (n : Counts) → Fine (junction_list l n) trans_heads true trans_heads
unfolding junction_list
fine_junction_list l n =
    fine_as trans_heads trans_heads
    (fine_many_from (λ z. trans_heads) (λ z t. t.counts) trans_heads n (good_junction_trans l) (λ z. refl)
    (λ z. refl) refl) refl refl

pub good_junction : (l : Limits) (n : Counts) → Good (junction l n) (is kinds.Junction) false nothing
unfolding junction
good_junction l n =
    good_as (is kinds.Junction) nothing
    (good_then (good_allowed (is kinds.Junction) (λ t. junction_refused l n) (good_token kinds.Junction)) (λ _.
    fine_then fine_name (λ name.
    fine_then (fine_token kinds.OpenBrace) (λ _.
    fine_then (fine_junction_list l (after_junction n)) (λ list.
    fine_then (fine_token kinds.CloseBrace) (λ _.
    fine_give (record {
      value = record { name = name; list = values list };
      counts = counts_behind (after_junction n) list;
    })) refl) refl) refl) refl) refl) refl refl

-- ---- items

-- the item of an action, with the counts after its statements
abbrev pub acted : (List Stmt → Item) → Counts → List Stmt → Counted Item
acted kind n found = record { value = kind found; counts = after_stmts n found }

pub fine_action_item : (l : Limits) (keyword : Kind) (kind : List Stmt → Item) (n : Counts)
    → Fine (action_item l keyword kind n) (is keyword) false nothing
unfolding action_item
fine_action_item l keyword kind n = record { good = good_clean (is kinds.OpenBrace) whole.good; sample = whole.sample }
  where
    rest : Fine (block l n >>= λ found. give (acted kind n found)) (is kinds.OpenBrace) false nothing
    rest = fine_as (is kinds.OpenBrace) nothing
        (fine_then (fine_block l n) (λ found. fine_give (acted kind n found)) refl) refl refl

    whole : Fine (action_item l keyword kind n) (also (is keyword) false (is kinds.OpenBrace)) false nothing
    whole = fine_then (fine_token keyword) (λ _. rest) refl

pub fine_history_item : (n : Counts) → Fine (history_item n) (is kinds.History) false nothing
unfolding history_item
fine_history_item n =
    fine_as (is kinds.History) nothing
    (fine_then (fine_token kinds.History) (λ t.
    fine_then (fine_token kinds.Semicolon) (λ _.
    fine_give (record { value = History t.at; counts = n })) refl) refl) refl refl

pub good_trans_item : (l : Limits) (keyword : Kind) (kind : Trans → Item) (n : Counts)
    → Good (trans_item l keyword kind n) (is keyword) false nothing
unfolding trans_item
good_trans_item l keyword kind n =
    good_clean nothing
    (good_then (good_keyword_trans l (is keyword) n) (λ found. fine_give (counted_as kind found)) refl)

pub good_junction_item : (l : Limits) (n : Counts) → Good (junction_item l n) (is kinds.Junction) false nothing
unfolding junction_item
good_junction_item l n =
    good_clean nothing (good_then (good_junction l n) (λ found. fine_give (counted_as JunctionItem found)) refl)

pub good_event_item : (l : Limits) (n : Counts) → Good (event_item l n) (is kinds.Event) false nothing
unfolding event_item
good_event_item l n =
    good_clean nothing
    (good_then (good_event l n)
    (λ found. fine_give (record { value = EventItem found; counts = after_event n })) refl)

pub good_variable_item : (l : Limits) (n : Counts) → Good (variable_item l n) kind_heads false nothing
unfolding variable_item
good_variable_item l n =
    good_clean nothing
    (good_then (good_variable l n)
    (λ found. fine_give (record { value = VarItem found; counts = after_variable n })) refl)

-- ---- items over states that read as they spell

-- what begins an item of a state, and of a chart
abbrev pub item_kinds : Set
item_kinds k =
    is kinds.Entry k ||
    (is kinds.During k || (is kinds.Exit k || (is kinds.History k || (is kinds.Outer k || (is kinds.Inner k
    || (is kinds.Default k || (is kinds.Junction k || is kinds.State k)))))))

-- the FIRST set of an item of the chart
abbrev pub chart_kinds : Set
chart_kinds k =
    is kinds.Entry k ||
    (is kinds.During k || (is kinds.History k || (is kinds.Inner k || (is kinds.Default k || (is kinds.Junction k
    || (is kinds.Event k || (kind_heads k || is kinds.State k)))))))

-- each set of items that may come next is within those
seen_items : (entry during exit history : Bool) (n : Counts)
    → subset
    (item_heads (record { entry = entry; during = during; exit = exit; history = history; counts = n })) item_kinds ≡ true
seen_items true true true true n = refl
seen_items true true true false n = refl
seen_items true true false true n = refl
seen_items true true false false n = refl
seen_items true false true true n = refl
seen_items true false true false n = refl
seen_items true false false true n = refl
seen_items true false false false n = refl
seen_items false true true true n = refl
seen_items false true true false n = refl
seen_items false true false true n = refl
seen_items false true false false n = refl
seen_items false false true true n = refl
seen_items false false true false n = refl
seen_items false false false true n = refl
seen_items false false false false n = refl

-- what may stand in the chart after what was seen is in the FIRST set of an item of the chart
seen_chart : (entry during exit history : Bool) (n : Counts)
    → subset
    (chart_heads (record { entry = entry; during = during; exit = exit; history = history; counts = n })) chart_kinds
    ≡ true
seen_chart true true exit true n = refl
seen_chart true true exit false n = refl
seen_chart true false exit true n = refl
seen_chart true false exit false n = refl
seen_chart false true exit true n = refl
seen_chart false true exit false n = refl
seen_chart false false exit true n = refl
seen_chart false false exit false n = refl

module _ (l : Limits) {state : StateGrammar} (a : (n : Counts) → Good (state n) (is kinds.State) false nothing) where
  good_state_item : (n : Counts)
      → Good (state n >>= λ found. give (counted_as StateItem found)) (is kinds.State) false nothing
  good_state_item n = good_clean nothing (good_then (a n) (λ found. fine_give (counted_as StateItem found)) refl)

  pub good_item : (z : Seen) → Good (item l state z) item_kinds false nothing
  unfolding item
  good_item z =
      good_as item_kinds nothing
      (good_either (is kinds.Entry) (fine_action_item l kinds.Entry Entry z.counts).good
      (good_either (is kinds.During) (fine_action_item l kinds.During During z.counts).good
      (good_either (is kinds.Exit) (fine_action_item l kinds.Exit Exit z.counts).good
      (good_either (is kinds.History) (fine_history_item z.counts).good
      (good_either (is kinds.Outer) (good_trans_item l kinds.Outer Outer z.counts)
      (good_either (is kinds.Inner) (good_trans_item l kinds.Inner Inner z.counts)
      (good_either (is kinds.Default) (good_trans_item l kinds.Default Default z.counts)
      (good_either (is kinds.Junction) (good_junction_item l z.counts) (good_state_item z.counts)
      refl refl) refl refl) refl refl) refl refl) refl refl) refl refl) refl refl) refl refl) refl refl

  pub good_chart_item : (z : Seen) → Good (chart_item l state z) chart_kinds false nothing
  unfolding chart_item
  good_chart_item z =
      good_as chart_kinds nothing
      (good_either (is kinds.Entry) (fine_action_item l kinds.Entry Entry z.counts).good
      (good_either (is kinds.During) (fine_action_item l kinds.During During z.counts).good
      (good_either (is kinds.History) (fine_history_item z.counts).good
      (good_either (is kinds.Inner) (good_trans_item l kinds.Inner Inner z.counts)
      (good_either (is kinds.Default) (good_trans_item l kinds.Default Default z.counts)
      (good_either (is kinds.Junction) (good_junction_item l z.counts)
      (good_either (is kinds.Event) (good_event_item l z.counts)
      (good_either kind_heads (good_variable_item l z.counts) (good_state_item z.counts)
      refl refl) refl refl) refl refl) refl refl) refl refl) refl refl) refl refl) refl refl) refl refl

  -- an item where it may stand
  pub good_next_item : (z : Seen) → Good (next_item l state z) (item_heads z) false nothing
  good_next_item z = good_beginning (item_heads z) (good_item z)

  pub good_next_chart_item : (z : Seen) → Good (next_chart_item l state z) (chart_heads z) false nothing
  good_next_chart_item z = good_beginning (chart_heads z) (good_chart_item z)

  pub fine_items : (z : Seen) → Fine (items l state z) item_kinds true item_kinds
  unfolding items
  fine_items z =
      fine_as item_kinds item_kinds
      (fine_many_from item_heads after_item item_kinds z good_next_item (λ z. same_set (item_heads z))
      (λ z. seen_items z.entry z.during z.exit z.history z.counts) refl) refl refl

  pub fine_chart_items : (z : Seen) → Fine (chart_items l state z) chart_kinds true chart_kinds
  unfolding chart_items
  fine_chart_items z =
      fine_as chart_kinds chart_kinds
      (fine_many_from chart_heads after_item chart_kinds z good_next_chart_item (λ z. same_set (chart_heads z))
      (λ z. seen_chart z.entry z.during z.exit z.history z.counts) refl) refl refl
