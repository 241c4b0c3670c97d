-- The words of the canonical text of a chart spell the chart.
-- `x_spelled` says that the canonical words of x spell it.
use Rattle.std.proofs.Common.{◌≡◌, ℕ, true, List, [], ◌∷◌, ◌++◌, map, refl, ap, ◌∙◌, append_assoc, arith}
use Rattle.std.specs.List.{flat_map}
use Rattle.token_grammar.specs.declared.token.Kind.TheVariants as kinds
use Rattle.token_grammar.specs.Grammar.{is}
use Rattle.chart_tree.specs.declared.name.NameText.{NameText}
use Rattle.chart_tree.specs.declared.state.CompText.{CompText}
use Rattle.chart_tree.specs.declared.chart.EventText.{EventText}
use Rattle.chart_tree.specs.declared.chart.VarWord.{VarWord}
use Rattle.chart_tree.specs.declared.chart.VarWord.TheVariants as var_words
use Rattle.chart_tree.specs.Trees.{Stmt, Trans, Parts, State, StateOf, States, Var, Chart}
use Rattle.chart_grammar.specs.Limits.{Counts, Counted, usual, after_event, after_variable}
use Rattle.chart_grammar.specs.Declarations.{kind_heads}
use Rattle.chart_grammar.specs.States.{values, Item, Entry, During, Inner, Default, StateItem, EventItem, VarItem}
use Rattle.chart_grammar.specs.States.{Seen, nothing_seen, counted_as, StateGrammar, chart_heads, chart_item}
use Rattle.chart_grammar.specs.States.{chart_items, Sorted, no_items, sorted, state_with, state, at_begin, chart_with}
use Rattle.chart_grammar.specs.States.{chart}
use Rattle.chart_print.specs.Pieces.{key}
use Rattle.chart_print.specs.Words.{name_pieces}
use Rattle.chart_print.specs.Transitions.{block_pieces, trans_pieces}
use Rattle.chart_print.specs.Declarations.{event_pieces, var_kind, var_pieces}
use Rattle.chart_print.specs.Canonical.{comp_pieces, parts_pieces, state_pieces, states_pieces, event_line, var_line}
use Rattle.chart_print.specs.Canonical.{chart_pieces}
use Rattle.chart_print.specs.Places.{unplaced_name, unplaced_parts, unplaced_state, unplaced_states, unplaced_event}
use Rattle.chart_print.specs.Places.{unplaced_var, without_places}
use Rattle.canonical_text.specs.Words.{words_in, WordsSpell}
use Rattle.canonical_text.specs.Sizes.{none, ◌⊕◌, sizes, size_of_parts, size_of_state, size_of_chart, IsWithin}
use Rattle.canonical_text.specs.Terms.{IsNamed, IsVar, IsParts, IsStates, IsChart}
use Rattle.canonical_text.specs.Claims.{ExpressionClaims, TransitionClaims, counted, behind}
use Rattle.canonical_text.proofs.Words.{head_words, end_words, words_in-append, words_line, keyword}
use Rattle.canonical_text.proofs.Counts.{same_counts, within_front, one_event, one_variable}
use Rattle.canonical_text.proofs.Spelled.{spell_give, spell_then, spell_left, spell_right, spell_made}
use Rattle.canonical_text.proofs.Keywords.{spell_word}
use Rattle.canonical_text.proofs.ItemLists.{unplaced_item, Place, ItemWords, segment}
use Rattle.canonical_text.proofs.PartsSpelled.{listed, listed_sizes, IsNested, listed_nested, NoAction, Readers}
use Rattle.canonical_text.proofs.PartsSpelled.{HasItems, behind_all, behind_rest, parts_tail}
use Rattle.canonical_text.proofs.ItemsSpelled.{Leads, keyed_leads, spell_beginning, history_leads}
use Rattle.canonical_text.proofs.ItemsSpelled.{history_item_spelled, action_item_spelled, trans_item_spelled}
use Rattle.canonical_text.proofs.ItemsSpelled.{junction_item_spelled, event_item_spelled, variable_item_spelled}
use Rattle.canonical_text.proofs.StatesSpelled.{junction_leads, state_leads, comp_spelled, unplaced_sorted}
use Rattle.canonical_text.proofs.StatesSpelled.{sorted_left, state_with_alike, state_of_left, state_spelled}

-- ---- one item of a chart

-- where the items of a chart stand
abbrev pub in_chart : StateGrammar → NameText → CompText → Place
in_chart st name comp = record { set = chart_heads; item = chart_item usual st; name = name; comp = comp }

-- declarations begin with their keywords
event_leads : (x : EventText) → Leads kinds.Event (words_in (event_pieces x))
unfolding event_pieces key
event_leads x = record { rest = _; is = refl }

-- the words of a datum begin with its word
var_leads : (x : Var) → Leads (var_kind x.kind) (words_in (var_pieces x))
unfolding var_pieces key
var_leads x = record { rest = _; is = refl }

-- a declaration may stand anywhere in a chart
var_heads : (z : Seen) (word : VarWord) → chart_heads z (var_kind word) ≡ true
var_heads z var_words.Input = refl
var_heads z var_words.Output = refl
var_heads z var_words.Local = refl

-- no exit action and no outer transition stands in a chart
abbrev NoStmts : List Stmt → Type 0
NoStmts b = ⊥

-- there is no such transition
abbrev NoTrans : Trans → Type 0
NoTrans t = ⊥

module _ (t : TransitionClaims) (level : ℕ) (nested : State → Type 0) (st : StateGrammar)
    (reads : (n : Counts) (s : State) → nested s → IsWithin (n ⊕ size_of_state s)
    → WordsSpell (st n) (counted unplaced_state) (words_in (state_pieces level s))
    (behind (unplaced_state s) (n ⊕ size_of_state s)))
    (name : NameText) (comp : CompText) where
  -- each item of a chart but its declarations
  chart_readers : Readers (in_chart st name comp) level NoStmts NoTrans nested
  unfolding chart_item
  chart_readers = record {
    entry = λ z q b h within.
        spell_beginning (chart_heads z) kinds.Entry _ (keyed_leads kinds.Entry (block_pieces b)) (rw q refl)
        (spell_left (is kinds.Entry) (action_item_spelled t kinds.Entry Entry (λ b. refl) z.counts b h within));
    during = λ z q b h within.
        spell_beginning (chart_heads z) kinds.During _ (keyed_leads kinds.During (block_pieces b)) (rw q refl)
        (spell_right (is kinds.Entry)
        (spell_left (is kinds.During) (action_item_spelled t kinds.During During (λ b. refl) z.counts b h within)));
    exit = λ z q b h within. absurd h;
    history = λ z q.
        spell_beginning (chart_heads z) kinds.History _ history_leads (rw q refl)
        (spell_right (is kinds.Entry)
        (spell_right (is kinds.During)
        (spell_left (is kinds.History) (history_item_spelled z.counts))));
    outer = λ z x h within. absurd h;
    inner = λ z x h within.
        spell_beginning (chart_heads z) kinds.Inner _ (keyed_leads kinds.Inner (trans_pieces x)) refl
        (spell_right (is kinds.Entry)
        (spell_right (is kinds.During)
        (spell_right (is kinds.History)
        (spell_left (is kinds.Inner) (trans_item_spelled t kinds.Inner Inner (λ x. refl) z.counts x h within)))));
    default = λ z x h within.
        spell_beginning (chart_heads z) kinds.Default _ (keyed_leads kinds.Default (trans_pieces x)) refl
        (spell_right (is kinds.Entry)
        (spell_right (is kinds.During)
        (spell_right (is kinds.History)
        (spell_right (is kinds.Inner)
        (spell_left (is kinds.Default)
        (trans_item_spelled t kinds.Default Default (λ x. refl) z.counts x h within))))));
    junction = λ z x h within.
        spell_beginning (chart_heads z) kinds.Junction _ (junction_leads level x) refl
        (spell_right (is kinds.Entry)
        (spell_right (is kinds.During)
        (spell_right (is kinds.History)
        (spell_right (is kinds.Inner)
        (spell_right (is kinds.Default)
        (spell_left (is kinds.Junction) (junction_item_spelled t level z.counts x h within)))))));
    state = λ z x h within.
        spell_beginning (chart_heads z) kinds.State _ (state_leads level x) refl
        (spell_right (is kinds.Entry)
        (spell_right (is kinds.During)
        (spell_right (is kinds.History)
        (spell_right (is kinds.Inner)
        (spell_right (is kinds.Default)
        (spell_right (is kinds.Junction)
        (spell_right (is kinds.Event)
        (spell_right kind_heads
        (spell_made (reads z.counts x h within)
        (λ found e. ap (λ (y : Counted State). counted_as StateItem y) e))))))))));
  }

  -- declarations
  event_line_spelled : (z : Seen) (x : EventText) → IsNamed x.name → IsWithin (z.counts ⊕ after_event none)
      → ItemWords (in_chart st name comp) z (words_in (event_line x)) (EventItem (unplaced_event x))
      (z.counts ⊕ after_event none)
  unfolding chart_item event_line
  event_line_spelled z x h within =
      let room : IsWithin (after_event z.counts) = rw (one_event z.counts) within in
      rw (words_line 1 (event_pieces x), ← one_event z.counts)
      (spell_beginning (chart_heads z) kinds.Event _ (event_leads x) refl
      (spell_right (is kinds.Entry)
      (spell_right (is kinds.During)
      (spell_right (is kinds.History)
      (spell_right (is kinds.Inner)
      (spell_right (is kinds.Default)
      (spell_right (is kinds.Junction)
      (spell_left (is kinds.Event) (event_item_spelled t z.counts x h room)))))))))

  variable_line_spelled : (z : Seen) (x : Var) → IsVar x → IsWithin (z.counts ⊕ after_variable none)
      → ItemWords (in_chart st name comp) z (words_in (var_line x)) (VarItem (unplaced_var x))
      (z.counts ⊕ after_variable none)
  unfolding chart_item var_line
  variable_line_spelled z x h within =
      let room : IsWithin (after_variable z.counts) = rw (one_variable z.counts) within in
      rw (words_line 1 (var_pieces x), ← one_variable z.counts)
      (spell_beginning (chart_heads z) (var_kind x.kind) _ (var_leads x) (var_heads z x.kind)
      (spell_right (is kinds.Entry)
      (spell_right (is kinds.During)
      (spell_right (is kinds.History)
      (spell_right (is kinds.Inner)
      (spell_right (is kinds.Default)
      (spell_right (is kinds.Junction)
      (spell_right (is kinds.Event)
      (spell_left kind_heads (variable_item_spelled t z.counts x h room))))))))))

-- ---- all items of a chart

-- the sizes of declarations
abbrev pub sizes_of_events : List EventText → Counts
sizes_of_events events = sizes (λ e. after_event none) events

-- the sizes of data
abbrev pub sizes_of_vars : List Var → Counts
sizes_of_vars vars = sizes (λ v. after_variable none) vars

-- the counts after a chart are those of all that it has
behind_chart : (events : List EventText) (vars : List Var) (parts : Parts) (states : States)
    → behind_all ((at_begin ⊕ sizes_of_events events) ⊕ sizes_of_vars vars) parts states
    ≡ size_of_chart (record { events = events; vars = vars; root = StateOf parts states })
behind_chart events vars parts states =
    let nested = listed_sizes states in
    rw nested (same_counts _ _ (omega arith))

-- the words of a chart, one part after the other
chart_words : (events : List EventText) (vars : List Var) (parts : Parts) (states : States)
    → words_in (chart_pieces (record { events = events; vars = vars; root = StateOf parts states }))
    ≡ keyword kinds.Chart ∷ (words_in (name_pieces parts.name) ++ (words_in (comp_pieces parts.comp)
    ++ (keyword kinds.OpenBrace ∷ ((words_in (flat_map event_line events) ++ (words_in (flat_map var_line vars)
    ++ words_in (parts_pieces 1 parts ++ states_pieces 1 states)))
    ++ (keyword kinds.CloseBrace ∷ [])))))
unfolding chart_pieces
chart_words events vars parts states = simp (words_in-append, append_assoc, head_words, end_words)

-- what a chart has, as its items have it
chart_items_of : (parts : Parts) (states : States) → IsParts parts → IsStates usual.depth states → parts.exit ≡ []
    → parts.outer ≡ []
    → HasItems NoStmts NoTrans (IsNested usual.depth) parts states
chart_items_of parts states h nested stays inside = record {
  entry = h.entry;
  during = h.during;
  exit = rw stays tt;
  default = h.default;
  inner = h.inner;
  outer = rw inside tt;
  junctions = h.junctions;
  states = listed_nested usual.depth states nested;
}

-- charts of the same parts are the same
whole_chart : {events events' : List EventText} {vars vars' : List Var} {root root' : State} → events ≡ events'
    → vars ≡ vars' → root ≡ root'
    → ◌≡◌ {A = Chart} (record { events = events; vars = vars; root = root })
    (record { events = events'; vars = vars'; root = root' })
whole_chart e v r = cc

module _ (e : ExpressionClaims) (t : TransitionClaims) where
  -- a chart whose root is known
  chart_of : (events : List EventText) (vars : List Var) (parts : Parts) (states : States)
      → let x : Chart = record { events = events; vars = vars; root = StateOf parts states } in IsChart x
      → WordsSpell (chart usual) without_places (words_in (chart_pieces x)) (without_places x)
  unfolding chart chart_items without_places
  chart_of events vars parts states h =
      let there : NameText = unplaced_name parts.name in
      let st : StateGrammar = state usual usual.depth in
      let p : Place = in_chart st there parts.comp in
      let n1 : Counts = at_begin ⊕ sizes_of_events events in
      let n2 : Counts = n1 ⊕ sizes_of_vars vars in
      let m : Counts = behind_all n2 parts states in
      let within : IsWithin m = rw (behind_chart events vars parts states) h.within in
      let others : Counts = size_of_parts parts ⊕ sizes size_of_state (listed states) in
      let within2 : IsWithin n2 = within_front n2 others (rw (← behind_rest n2 parts states) within) in
      let within1 : IsWithin n1 = within_front n1 (sizes_of_vars vars) within2 in
      let nested : State → Type 0 = IsNested usual.depth in
      let reads = state_spelled e t usual.depth 1 in
      let readers = chart_readers t 1 nested st reads there parts.comp in
      let base : Sorted =
      record (no_items there parts.comp) { parts = unplaced_parts parts; states = unplaced_states states } in
      let items =
      parts_tail readers parts states (chart_items_of parts states h.parts h.states h.stays h.inside) n2 within in
      let vars_tail =
      segment p NoAction IsVar var_line (λ v. after_variable none) unplaced_var VarItem
      (λ ys. record base { vars = ys }) (λ y ys. refl) (λ z y k q. q)
      (λ z q. variable_line_spelled t 1 nested st reads there parts.comp z) vars h.vars n1 within2 _ m items in
      let events_tail =
      segment p NoAction (λ (x : EventText). IsNamed x.name) event_line (λ x. after_event none) unplaced_event EventItem
      (λ ys. record base { events = ys; vars = map unplaced_var vars }) (λ y ys. refl) (λ z y k q. q)
      (λ z q. event_line_spelled t 1 nested st reads there parts.comp z) events h.events at_begin within1 _ m vars_tail in
      rw (chart_words events vars parts states)
      (spell_word kinds.Chart
      (spell_then (e.name_spelled parts.name) (λ name named.
      spell_then (comp_spelled parts.comp) (λ c composed.
      spell_word kinds.OpenBrace
      (spell_then (events_tail (nothing_seen at_begin) (refl, refl, refl, refl) refl) (λ found sorts.
      spell_word kinds.CloseBrace
      (spell_give _ (looks name named c composed found (ap (λ (x : Sorted × Counts). x.0) sorts)))))))))
    where
      looks : (name : NameText) → unplaced_name name ≡ unplaced_name parts.name → (c : CompText) → c ≡ parts.comp
          → (found : List (Counted Item))
          → sorted (unplaced_name parts.name) parts.comp (map unplaced_item (values found))
          ≡ record { parts = unplaced_parts parts; states = unplaced_states states; events = map unplaced_event events; vars = map unplaced_var vars }
          → without_places (chart_with (sorted name c (values found))) ≡ without_places
          (record { events = events; vars = vars; root = StateOf parts states })
      looks name named c composed found sorts =
          let s : Sorted = sorted name c (values found) in
          let whole : Sorted =
          record { parts = unplaced_parts parts; states = unplaced_states states; events = map unplaced_event events; vars = map unplaced_var vars } in
          let put_so : unplaced_sorted s ≡ whole = sorted_left name _ named c _ composed (values found) whole sorts in
          let root : unplaced_state (state_with s) ≡ unplaced_state (StateOf parts states) =
          state_with_alike s ∙ ap state_with put_so
          ∙ state_of_left parts states h.comp (map unplaced_event events) (map unplaced_var vars) in
          let declared : map unplaced_event s.events ≡ map unplaced_event events =
          ap (λ (x : Sorted). x.events) put_so in
          let data_so : map unplaced_var s.vars ≡ map unplaced_var vars = ap (λ (x : Sorted). x.vars) put_so in
          whole_chart declared data_so root

  -- every chart
  pub chart_spelled : (x : Chart) → IsChart x
      → WordsSpell (chart usual) without_places (words_in (chart_pieces x)) (without_places x)
  chart_spelled x h = of_root x.events x.vars x.root h
    where
      of_root : (events : List EventText) (vars : List Var) (root : State) → let x : Chart =
          record { events = events; vars = vars; root = root } in IsChart x
          → WordsSpell (chart usual) without_places (words_in (chart_pieces x)) (without_places x)
      of_root events vars (StateOf parts states) h = chart_of events vars parts states h
