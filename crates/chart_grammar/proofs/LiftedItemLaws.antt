-- Junctions and the items of states, where some limits don't count.
-- `lifted_x` compares the production x under the usual limits with x under limits of which some don't count. `eased_x`
-- says so too, and that x has a spelling. `starts_x` says that each token of a set begins x, and `expects_x` that no
-- other does.
use Rattle.std.proofs.Common.{◌≡◌, ℕ, true, false, List, Some, inl, inr}
use Rattle.std.proofs.lemmas.Bool.{cases_Bool}
use Rattle.token_grammar.specs.declared.token.Kind.{Kind}
use Rattle.token_grammar.specs.declared.token.Kind.TheVariants as kinds
use Rattle.token_grammar.specs.declared.fault.TokenFault.{TokenFault}
use Rattle.token_grammar.specs.declared.fault.TokenFault.TheVariants as faults
use Rattle.token_grammar.specs.declared.fault.Thing.TheVariants as things
use Rattle.token_grammar.specs.Token.{Lexeme}
use Rattle.token_grammar.specs.Grammar.{Grammar, is, give, ◌>>=◌}
use Rattle.token_grammar.proofs.Good.{Set, nothing, Good}
use Rattle.token_grammar.proofs.Lifted.{Lifted, Eased, eased_token, eased_give, lifted_then, eased_then, lifted_either}
use Rattle.token_grammar.proofs.LiftedItems.{eased_many_from}
use Rattle.token_grammar.proofs.LiftedLimits.{lifted_allowed}
use Rattle.token_grammar.proofs.Starts.{starts_token}
use Rattle.chart_tree.specs.Trees.{Stmt, Trans}
use Rattle.chart_grammar.specs.Limits.{Limits, usual, Counts, junction_refused, after_junction, after_event}
use Rattle.chart_grammar.specs.Limits.{after_variable, lifts_from}
use Rattle.chart_grammar.specs.Transitions.{trans_heads}
use Rattle.chart_grammar.specs.Declarations.{kind_heads}
use Rattle.chart_grammar.specs.States.{junction_list, junction, StateGrammar, Item, Entry, During, Exit, History}
use Rattle.chart_grammar.specs.States.{Outer, Inner, Default, JunctionItem, StateItem, EventItem, VarItem, Seen}
use Rattle.chart_grammar.specs.States.{after_item, counted_as, action_item, history_item, trans_item, junction_item}
use Rattle.chart_grammar.specs.States.{event_item, variable_item, item_heads, chart_heads, item, chart_item}
use Rattle.chart_grammar.specs.States.{unexpected, beginning, items, chart_items}
use Rattle.chart_grammar.proofs.TransitionLaws.{good_junction_trans}
use Rattle.chart_grammar.proofs.ItemLaws.{acted, good_next_item, good_next_chart_item}
use Rattle.chart_grammar.proofs.LimitLaws.{Comparison, expected, item_alike}
use Rattle.chart_grammar.proofs.LiftedWords.{eased_name}
use Rattle.chart_grammar.proofs.LiftedDeclarations.{lifted_expected, lifted_event, lifted_variable}
use Rattle.chart_grammar.proofs.LiftedTransitions.{eased_block, lifted_junction_trans, lifted_keyword_trans}

-- a token out of the set is Expected
only_expected : (set : Set) (t : Lexeme) (f : TokenFault) → unexpected set t ≡ Some f → faults.Expected ≡ f
only_expected set t f said =
    elim (cases_Bool (set t.kind)) [
      | inl there ↦ absurd (let bad = rw there at said in cc)
      | inr away ↦ let same = rw away at said in cc
    ]

-- what begins with a token of the set does so under other limits
lifted_beginning : {X : Type 0} {k : ℕ} {l : Limits} {g g' : Grammar X} → Comparison k l → (set : Set)
    → Lifted (lifts_from k) g g'
    → Lifted (lifts_from k) (beginning set g) (beginning set g')
lifted_beginning c set a = lifted_expected c (λ k. true) (unexpected set) (only_expected set) a

module _ {k : ℕ} {l : Limits} (c : Comparison k l) where
  -- ---- junctions

  eased_junction_list : (n : Counts) → Eased (lifts_from k) (junction_list usual n) (junction_list l n)
  unfolding junction_list
  eased_junction_list n =
      eased_many_from (λ z. trans_heads) (λ z t. t.counts) (good_junction_trans usual) (good_junction_trans l)
      (lifted_junction_trans c) n

  lifted_junction : (n : Counts) → Lifted (lifts_from k) (junction usual n) (junction l n)
  unfolding junction
  lifted_junction n =
      lifted_then
      (lifted_allowed (is kinds.Junction) (λ t. junction_refused usual n) (λ t. junction_refused l n)
      (eased_token (expected c) kinds.Junction).lifted (λ t there. item_alike c things.Junctions n.junctions n)
      (starts_token kinds.Junction)) (λ _.
      eased_then (eased_name c) (λ name.
      eased_then (eased_token (expected c) kinds.OpenBrace) (λ _.
      eased_then (eased_junction_list (after_junction n)) (λ list.
      eased_then (eased_token (expected c) kinds.CloseBrace) (λ _.
      eased_give _)))))

  -- ---- items

  eased_action_item : (keyword : Kind) (kind : List Stmt → Item) (n : Counts)
      → Eased (lifts_from k) (action_item usual keyword kind n) (action_item l keyword kind n)
  unfolding action_item
  eased_action_item keyword kind n =
      eased_then (eased_token (expected c) keyword) (λ _.
      eased_then (eased_block c n) (λ found.
      eased_give (acted kind n found)))

  eased_history_item : (n : Counts) → Eased (lifts_from k) (history_item n) (history_item n)
  unfolding history_item
  eased_history_item n =
      eased_then (eased_token (expected c) kinds.History) (λ t.
      eased_then (eased_token (expected c) kinds.Semicolon) (λ _.
      eased_give (record { value = History t.at; counts = n })))

  lifted_trans_item : (keyword : Kind) (kind : Trans → Item) (n : Counts)
      → Lifted (lifts_from k) (trans_item usual keyword kind n) (trans_item l keyword kind n)
  unfolding trans_item
  lifted_trans_item keyword kind n =
      lifted_then (lifted_keyword_trans c (is keyword) n) (λ found. eased_give (counted_as kind found))

  lifted_junction_item : (n : Counts) → Lifted (lifts_from k) (junction_item usual n) (junction_item l n)
  unfolding junction_item
  lifted_junction_item n = lifted_then (lifted_junction n) (λ found. eased_give (counted_as JunctionItem found))

  lifted_event_item : (n : Counts) → Lifted (lifts_from k) (event_item usual n) (event_item l n)
  unfolding event_item
  lifted_event_item n = lifted_then (lifted_event c n)
      (λ found. eased_give (record { value = EventItem found; counts = after_event n }))

  lifted_variable_item : (n : Counts) → Lifted (lifts_from k) (variable_item usual n) (variable_item l n)
  unfolding variable_item
  lifted_variable_item n =
      lifted_then (lifted_variable c n)
      (λ found. eased_give (record { value = VarItem found; counts = after_variable n }))

-- ---- items over states

-- states that read as they spell, and the others where some limits don't count
pub record ComparedStates (k : ℕ) (state state' : StateGrammar) : Type 0 where
  pub good : (n : Counts) → Good (state n) (is kinds.State) false nothing
  pub good' : (n : Counts) → Good (state' n) (is kinds.State) false nothing
  pub lifted : (n : Counts) → Lifted (lifts_from k) (state n) (state' n)

module _ {k : ℕ} {l : Limits} {state state' : StateGrammar} (c : Comparison k l)
    (a : ComparedStates k state state') where
  lifted_state_item : (n : Counts)
      → Lifted (lifts_from k) (state n >>= λ found. give (counted_as StateItem found))
      (state' n >>= λ found. give (counted_as StateItem found))
  lifted_state_item n = lifted_then (a.lifted n) (λ found. eased_give (counted_as StateItem found))

  lifted_item : (z : Seen) → Lifted (lifts_from k) (item usual state z) (item l state' z)
  unfolding item
  lifted_item z =
      lifted_either (is kinds.Entry) (eased_action_item c kinds.Entry Entry z.counts).lifted
      (lifted_either (is kinds.During) (eased_action_item c kinds.During During z.counts).lifted
      (lifted_either (is kinds.Exit) (eased_action_item c kinds.Exit Exit z.counts).lifted
      (lifted_either (is kinds.History) (eased_history_item c z.counts).lifted
      (lifted_either (is kinds.Outer) (lifted_trans_item c kinds.Outer Outer z.counts)
      (lifted_either (is kinds.Inner) (lifted_trans_item c kinds.Inner Inner z.counts)
      (lifted_either (is kinds.Default) (lifted_trans_item c kinds.Default Default z.counts)
      (lifted_either (is kinds.Junction) (lifted_junction_item c z.counts) (lifted_state_item z.counts))))))))

  lifted_chart_item : (z : Seen) → Lifted (lifts_from k) (chart_item usual state z) (chart_item l state' z)
  unfolding chart_item
  lifted_chart_item z =
      lifted_either (is kinds.Entry) (eased_action_item c kinds.Entry Entry z.counts).lifted
      (lifted_either (is kinds.During) (eased_action_item c kinds.During During z.counts).lifted
      (lifted_either (is kinds.History) (eased_history_item c z.counts).lifted
      (lifted_either (is kinds.Inner) (lifted_trans_item c kinds.Inner Inner z.counts)
      (lifted_either (is kinds.Default) (lifted_trans_item c kinds.Default Default z.counts)
      (lifted_either (is kinds.Junction) (lifted_junction_item c z.counts)
      (lifted_either (is kinds.Event) (lifted_event_item c z.counts)
      (lifted_either kind_heads (lifted_variable_item c z.counts) (lifted_state_item z.counts))))))))

  pub eased_items : (z : Seen) → Eased (lifts_from k) (items usual state z) (items l state' z)
  unfolding items
  eased_items z =
      eased_many_from item_heads after_item (good_next_item usual a.good) (good_next_item l a.good')
      (λ z. lifted_beginning c (item_heads z) (lifted_item z)) z

  pub eased_chart_items : (z : Seen) → Eased (lifts_from k) (chart_items usual state z) (chart_items l state' z)
  unfolding chart_items
  eased_chart_items z =
      eased_many_from chart_heads after_item (good_next_chart_item usual a.good) (good_next_chart_item l a.good')
      (λ z. lifted_beginning c (chart_heads z) (lifted_chart_item z)) z
