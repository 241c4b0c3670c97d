-- Items of states and statecharts read as they spell.
-- `fine_x` says of the production x that it is LL(1): with its FIRST set, whether it is nullable, and the kinds that
-- may go on with what is read, which its FOLLOW must not have. `good_x` says so of one of which limits may leave no
-- spelling.
use Rattle.std.proofs.Common.{◌≡◌, Bool, true, false, List, [], ◌∷◌, Option, refl, ◌||◌}
use Rattle.token_grammar.specs.declared.token.Kind.{Kind}
use Rattle.token_grammar.specs.declared.token.Kind.TheVariants as kinds
use Rattle.token_grammar.specs.declared.token.Span.{Span}
use Rattle.token_grammar.specs.Grammar.{Grammar, is, give, ◌>>=◌}
use Rattle.token_grammar.proofs.Good.{Set, nothing, Good}
use Rattle.token_grammar.proofs.Sets.{subset}
use Rattle.token_grammar.proofs.Leaves.{good_token}
use Rattle.token_grammar.proofs.Allowed.{good_allowed}
use Rattle.token_grammar.proofs.Fine.{Fine, fine_token, fine_give, fine_then, good_then, good_either, fine_many_from}
use Rattle.token_grammar.proofs.Fine.{good_as, fine_as}
use Rattle.chart_grammar.specs.Limits.{Limits, Counts, after_event}
use Rattle.chart_grammar.specs.Declarations.{kind_heads}
use Rattle.chart_grammar.proofs.SetLaws.{good_clean, same_set, good_beginning}
use Rattle.statechart_lexer.specs.declared.words.Word.{Word}
use Rattle.statechart_lexer.specs.declared.words.Word.TheVariants as words
use Rattle.statechart_lexer.specs.Words.{word_of}
use Rattle.statechart_tree.specs.Trees.{Trans}
use Rattle.statechart_grammar.specs.Words.{just, is_among}
use Rattle.statechart_grammar.specs.Transitions.{case_heads}
use Rattle.statechart_grammar.specs.States.{plain_heads, StateGrammar, Item, ActionItem, HistoryItem, OuterItem, InnerItem}
use Rattle.statechart_grammar.specs.States.{DefaultItem, JunctionItem, StateItem, VarItems, EventItems, EnumerationItem}
use Rattle.statechart_grammar.specs.States.{ConstantItem, FunctionItem, Done, Seen, after_item, counted_as, free_as}
use Rattle.statechart_grammar.specs.States.{plain_action, on_action, on_item, history_item, trans_item, junction_item}
use Rattle.statechart_grammar.specs.States.{variable_items, event_items, enumeration_item, constant_item, clock_item}
use Rattle.statechart_grammar.specs.States.{function_item, item_word_refused, picked, worded, worded_item, item_heads, chart_heads}
use Rattle.statechart_grammar.specs.States.{item, chart_item, next_item, next_chart_item, items, chart_items}
use Rattle.statechart_grammar.proofs.WordLaws.{fine_on_word}
use Rattle.statechart_grammar.proofs.TransitionLaws.{good_keyword_trans}
use Rattle.statechart_grammar.proofs.DeclarationLaws.{good_events, fine_clock, good_variables, fine_enumeration}
use Rattle.statechart_grammar.proofs.DeclarationLaws.{fine_constant, fine_function}
use Rattle.statechart_grammar.proofs.ActionLaws.{good_junction, fine_plain_word, fine_cases_word, fine_action_rest}

-- ---- actions

pub fine_plain_action : (l : Limits) (z : Seen) → Fine (plain_action l z) plain_heads false nothing
unfolding plain_action
fine_plain_action l z =
    fine_as plain_heads nothing
    (fine_then fine_plain_word (λ first.
    fine_then (fine_action_rest l z.counts z.done first) (λ found.
    fine_give (counted_as ActionItem found)) refl) refl) refl refl

pub fine_on_action : (l : Limits) (z : Seen) (at : Span) → Fine (on_action l z at) case_heads false nothing
unfolding on_action
fine_on_action l z at =
    fine_as case_heads nothing
    (fine_then (fine_cases_word l at) (λ first.
    fine_then (fine_action_rest l z.counts z.done first) (λ found.
    fine_give (counted_as ActionItem found)) refl) refl) refl refl

pub fine_on_item : (l : Limits) (z : Seen) → Fine (on_item l z) (is kinds.Tick) false nothing
unfolding on_item
fine_on_item l z =
    fine_as (is kinds.Tick) nothing (fine_then fine_on_word (λ t. fine_on_action l z t.at) refl) refl refl

-- ---- the other items of a state

pub fine_history_item : (n : Counts) → Fine (history_item n) (is kinds.History) false nothing
unfolding history_item
fine_history_item n =
    fine_as (is kinds.History) nothing
    (fine_then (fine_token kinds.History) (λ t.
    fine_then (fine_token kinds.Semicolon) (λ _.
    fine_give (free_as HistoryItem n t.at)) refl) refl) refl refl

pub good_trans_item : (l : Limits) (keyword : Kind) (kind : Trans → Item) (n : Counts)
    → Good (trans_item l keyword kind n) (is keyword) false nothing
unfolding trans_item
good_trans_item l keyword kind n =
    good_clean nothing
    (good_then (good_keyword_trans l (is keyword) n) (λ found. fine_give (counted_as kind found)) refl)

pub good_junction_item : (l : Limits) (n : Counts) → Good (junction_item l n) (is kinds.Junction) false nothing
unfolding junction_item
good_junction_item l n =
    good_clean nothing (good_then (good_junction l n) (λ found. fine_give (counted_as JunctionItem found)) refl)

pub good_variable_items : (l : Limits) (set : Set) (n : Counts) → Good (variable_items l set n) set false nothing
unfolding variable_items
good_variable_items l set n =
    good_clean nothing (good_then (good_variables l set n) (λ found. fine_give (counted_as VarItems found)) refl)

-- ---- the declarations of a statechart

pub good_event_items : (l : Limits) (n : Counts) → Good (event_items l n) (is kinds.Event) false nothing
unfolding event_items
good_event_items l n =
    good_clean nothing (good_then (good_events l n) (λ found. fine_give (counted_as EventItems found)) refl)

pub fine_enumeration_item : (l : Limits) (n : Counts) → Fine (enumeration_item l n) (is kinds.Name) false nothing
unfolding enumeration_item
fine_enumeration_item l n =
    fine_as (is kinds.Name) nothing
    (fine_then (fine_enumeration l) (λ found. fine_give (free_as EnumerationItem n found)) refl) refl refl

pub fine_constant_item : (l : Limits) (n : Counts) → Fine (constant_item l n) (is kinds.Name) false nothing
unfolding constant_item
fine_constant_item l n =
    fine_as (is kinds.Name) nothing
    (fine_then (fine_constant l) (λ found. fine_give (free_as ConstantItem n found)) refl) refl refl

pub fine_clock_item : (l : Limits) (n : Counts) → Fine (clock_item l n) (is kinds.Name) false nothing
unfolding clock_item
fine_clock_item l n =
    fine_as (is kinds.Name) nothing
    (fine_then (fine_clock l) (λ found. fine_give (free_as EventItems (after_event n) (found ∷ []))) refl) refl refl

pub fine_function_item : (l : Limits) (n : Counts) → Fine (function_item l n) (is kinds.Name) false nothing
unfolding function_item
fine_function_item l n =
    fine_as (is kinds.Name) nothing
    (fine_then (fine_function l n) (λ found. fine_give (counted_as FunctionItem found)) refl) refl refl

-- of two productions that are LL(1) with the same sets, the one that a test picks
fine_picked : {X : Type 0} (b : Bool) {g h : Grammar X} {f m : Set} {n : Bool} → Fine g f n m → Fine h f n m
    → Fine (picked b g h) f n m
fine_picked true a c = a
fine_picked false a c = c

pub fine_worded : (l : Limits) (z : Seen) (word : Option Word) (at : Span)
    → Fine (worded l z word at) case_heads false nothing
fine_worded l z word at =
    fine_picked (is_among (just words.Enum) word) (fine_as case_heads nothing (fine_enumeration_item l z.counts) refl refl)
    (fine_picked (is_among (just words.Constant) word) (fine_as case_heads nothing (fine_constant_item l z.counts) refl refl)
    (fine_picked (is_among (just words.Clock) word) (fine_as case_heads nothing (fine_clock_item l z.counts) refl refl)
    (fine_picked (is_among (just words.Function) word)
    (fine_as case_heads nothing (fine_function_item l z.counts) refl refl) (fine_on_action l z at))))

pub good_worded_item : (l : Limits) (z : Seen) → Good (worded_item l z) (is kinds.Tick) false nothing
unfolding worded_item
good_worded_item l z =
    good_as (is kinds.Tick) nothing
    (good_then (good_allowed (is kinds.Tick) (item_word_refused l z) (good_token kinds.Tick))
    (λ t. fine_worded l z (word_of t.text) t.at) refl) refl refl

-- ---- items over states that read as they spell

-- what begins an item of a state
abbrev pub item_kinds : Set
item_kinds k =
    plain_heads k || (is kinds.Tick k || (is kinds.History k || (is kinds.Outer k || (is kinds.Inner k
    || (is kinds.Default k || (is kinds.Junction k || (is kinds.Local k || is kinds.State k)))))))

-- and of a statechart
abbrev pub chart_kinds : Set
chart_kinds k =
    plain_heads k || (is kinds.Tick k || (is kinds.History k || (is kinds.Inner k || (is kinds.Default k
    || (is kinds.Junction k || (is kinds.Event k || (kind_heads k || is kinds.State k)))))))

-- what was seen, by its parts
abbrev seen_with : Bool → Bool → Bool → Bool → Bool → Counts → Seen
seen_with entry during exit history clock n = record {
  done = record { entry = entry; during = during; exit = exit };
  history = history;
  clock = clock;
  counts = n;
}

-- each set of items that may come next is within those
seen_items : (entry during exit history clock : Bool) (n : Counts)
    → subset (item_heads (seen_with entry during exit history clock n)) item_kinds ≡ true
seen_items true true true true clock n = refl
seen_items true true true false clock n = refl
seen_items true true false true clock n = refl
seen_items true true false false clock n = refl
seen_items true false true true clock n = refl
seen_items true false true false clock n = refl
seen_items true false false true clock n = refl
seen_items true false false false clock n = refl
seen_items false true true true clock n = refl
seen_items false true true false clock n = refl
seen_items false true false true clock n = refl
seen_items false true false false clock n = refl
seen_items false false true true clock n = refl
seen_items false false true false clock n = refl
seen_items false false false true clock n = refl
seen_items false false false false clock n = refl

-- what may stand in the statechart after what was seen is in the FIRST set of its items
seen_chart : (entry during exit history clock : Bool) (n : Counts)
    → subset (chart_heads (seen_with entry during exit history clock n)) chart_kinds ≡ true
seen_chart true true true true clock n = refl
seen_chart true true true false clock n = refl
seen_chart true true false true clock n = refl
seen_chart true true false false clock n = refl
seen_chart true false true true clock n = refl
seen_chart true false true false clock n = refl
seen_chart true false false true clock n = refl
seen_chart true false false false clock n = refl
seen_chart false true true true clock n = refl
seen_chart false true true false clock n = refl
seen_chart false true false true clock n = refl
seen_chart false true false false clock n = refl
seen_chart false false true true clock n = refl
seen_chart false false true false clock n = refl
seen_chart false false false true clock n = refl
seen_chart false false false false clock n = refl

module _ (l : Limits) {state : StateGrammar} (a : (n : Counts) → Good (state n) (is kinds.State) false nothing) where
  good_state_item : (n : Counts)
      → Good (state n >>= λ found. give (counted_as StateItem found)) (is kinds.State) false nothing
  good_state_item n = good_clean nothing (good_then (a n) (λ found. fine_give (counted_as StateItem found)) refl)

  pub good_item : (z : Seen) → Good (item l state z) item_kinds false nothing
  unfolding item
  good_item z =
      good_as item_kinds nothing
      (good_either plain_heads (fine_plain_action l z).good
      (good_either (is kinds.Tick) (fine_on_item l z).good
      (good_either (is kinds.History) (fine_history_item z.counts).good
      (good_either (is kinds.Outer) (good_trans_item l kinds.Outer OuterItem z.counts)
      (good_either (is kinds.Inner) (good_trans_item l kinds.Inner InnerItem z.counts)
      (good_either (is kinds.Default) (good_trans_item l kinds.Default DefaultItem z.counts)
      (good_either (is kinds.Junction) (good_junction_item l z.counts)
      (good_either (is kinds.Local) (good_variable_items l (is kinds.Local) z.counts) (good_state_item z.counts)
      refl refl) refl refl) refl refl) refl refl) refl refl) refl refl) refl refl) refl refl) refl refl

  pub good_chart_item : (z : Seen) → Good (chart_item l state z) chart_kinds false nothing
  unfolding chart_item
  good_chart_item z =
      good_as chart_kinds nothing
      (good_either plain_heads (fine_plain_action l z).good
      (good_either (is kinds.Tick) (good_worded_item l z)
      (good_either (is kinds.History) (fine_history_item z.counts).good
      (good_either (is kinds.Inner) (good_trans_item l kinds.Inner InnerItem z.counts)
      (good_either (is kinds.Default) (good_trans_item l kinds.Default DefaultItem z.counts)
      (good_either (is kinds.Junction) (good_junction_item l z.counts)
      (good_either (is kinds.Event) (good_event_items l z.counts)
      (good_either kind_heads (good_variable_items l kind_heads z.counts) (good_state_item z.counts)
      refl refl) refl refl) refl refl) refl refl) refl refl) refl refl) refl refl) refl refl) refl refl

  -- an item where it may stand
  pub good_next_item : (z : Seen) → Good (next_item l state z) (item_heads z) false nothing
  good_next_item z = good_beginning (item_heads z) (good_item z)

  pub good_next_chart_item : (z : Seen) → Good (next_chart_item l state z) (chart_heads z) false nothing
  good_next_chart_item z = good_beginning (chart_heads z) (good_chart_item z)

  pub fine_items : (z : Seen) → Fine (items l state z) item_kinds true item_kinds
  unfolding items
  fine_items z =
      fine_as item_kinds item_kinds
      (fine_many_from item_heads after_item item_kinds z good_next_item (λ z. same_set (item_heads z))
      (λ z. seen_items z.done.entry z.done.during z.done.exit z.history z.clock z.counts) refl) refl refl

  pub fine_chart_items : (z : Seen) → Fine (chart_items l state z) chart_kinds true chart_kinds
  unfolding chart_items
  fine_chart_items z =
      fine_as chart_kinds chart_kinds
      (fine_many_from chart_heads after_item chart_kinds z good_next_chart_item (λ z. same_set (chart_heads z))
      (λ z. seen_chart z.done.entry z.done.during z.done.exit z.history z.clock z.counts) refl) refl refl
