-- The words of a state spell it, with the states nested in it.
-- `x_spelled` says that the canonical words of x spell it.
use Rattle.std.proofs.Common.{◌≡◌, ℕ, zero, suc, ◌+◌, List, [], ◌∷◌, ◌++◌, map, refl, ap, sym, ◌∙◌, append_assoc, arith}
use Rattle.std.specs.List.{flat_map}
use Rattle.token_grammar.specs.declared.token.Kind.{Kind}
use Rattle.token_grammar.specs.declared.token.Kind.TheVariants as kinds
use Rattle.token_grammar.specs.Grammar.{is}
use Rattle.chart_tree.specs.declared.name.NameText.{NameText}
use Rattle.chart_tree.specs.declared.state.CompText.{CompText}
use Rattle.chart_tree.specs.declared.state.CompText.TheVariants as comps
use Rattle.chart_tree.specs.declared.chart.EventText.{EventText}
use Rattle.chart_tree.specs.Trees.{Junction, Parts, State, StateOf, States, NoState, MoreStates, Var}
use Rattle.chart_grammar.specs.Limits.{Counts, Counted, usual, after_state}
use Rattle.chart_grammar.specs.States.{values, counts_behind, Item, Entry, During, Exit, History, Outer, Inner, Default}
use Rattle.chart_grammar.specs.States.{JunctionItem, StateItem, EventItem, VarItem, nothing_seen, counted_as}
use Rattle.chart_grammar.specs.States.{StateGrammar, item_heads, item, items, Sorted, no_items, put, sorted}
use Rattle.chart_grammar.specs.States.{comp_with, state_with, comp_heads, comp, maybe_comp, state_body, state_over}
use Rattle.chart_grammar.specs.States.{state}
use Rattle.chart_print.specs.Pieces.{Piece, key, space}
use Rattle.chart_print.specs.Words.{name_pieces}
use Rattle.chart_print.specs.Transitions.{block_pieces, trans_pieces}
use Rattle.chart_print.specs.Canonical.{comp_pieces, head_line, end_line, junction_trans_line, junction_pieces}
use Rattle.chart_print.specs.Canonical.{parts_pieces, state_pieces, states_pieces}
use Rattle.chart_print.specs.Places.{unplaced_name, unplaced_parts, unplaced_state, unplaced_states, unplaced_event}
use Rattle.chart_print.specs.Places.{unplaced_var}
use Rattle.canonical_text.specs.Words.{words_in, WordsSpell}
use Rattle.canonical_text.specs.Sizes.{◌⊕◌, size_of_parts, size_of_state, size_of_states, IsWithin}
use Rattle.canonical_text.specs.Terms.{IsBlock, IsTrans, IsComp, IsParts, IsState, IsStates}
use Rattle.canonical_text.specs.Claims.{ExpressionClaims, TransitionClaims, counted, behind}
use Rattle.canonical_text.proofs.Words.{head_words, end_words, words_in-append, keyword}
use Rattle.canonical_text.proofs.Counts.{same_counts, within_front, one_state}
use Rattle.canonical_text.proofs.Spelled.{spell_give, spell_then, spell_left, spell_right, spell_made}
use Rattle.canonical_text.proofs.Keywords.{spell_word, spell_allowed_word}
use Rattle.canonical_text.proofs.Room.{state_room}
use Rattle.canonical_text.proofs.ItemLists.{unplaced_item, Place, left}
use Rattle.canonical_text.proofs.PartsSpelled.{listed_sizes, IsNested, listed_nested, any_block, Readers, HasItems}
use Rattle.canonical_text.proofs.PartsSpelled.{behind_all, parts_tail}
use Rattle.canonical_text.proofs.ItemsSpelled.{Leads, leads_more, keyed_leads, spell_beginning, history_leads}
use Rattle.canonical_text.proofs.ItemsSpelled.{history_item_spelled, action_item_spelled, trans_item_spelled}
use Rattle.canonical_text.proofs.ItemsSpelled.{junction_item_spelled}

-- ---- how states, junctions and charts begin and end

-- what begins with a keyword does so whatever stands after it
head_leads : (level : ℕ) (k : Kind) (name : NameText) (comp : CompText)
    → Leads k (words_in (head_line level k name comp))
head_leads level k name comp = record { rest = _; is = head_words level k name comp }

-- the words of a junction begin with its keyword
pub junction_leads : (level : ℕ) (x : Junction) → Leads kinds.Junction (words_in (junction_pieces level x))
unfolding junction_pieces
junction_leads level x =
    let head : List Piece = head_line level kinds.Junction x.name comps.None in
    let list : List Piece = flat_map (junction_trans_line (level + 1)) x.list in
    leads_more kinds.Junction (head ++ list) (end_line level)
    (leads_more kinds.Junction head list (head_leads level kinds.Junction x.name comps.None))

-- the words of a state begin with its keyword
pub state_leads : (level : ℕ) (x : State) → Leads kinds.State (words_in (state_pieces level x))
unfolding state_pieces
state_leads level (StateOf parts states) =
    let head : List Piece = head_line level kinds.State parts.name parts.comp in
    let front : List Piece = parts_pieces (level + 1) parts in
    let nested : List Piece = states_pieces (level + 1) states in
    leads_more kinds.State (head ++ front ++ nested) (end_line level)
    (leads_more kinds.State (head ++ front) nested
    (leads_more kinds.State head front (head_leads level kinds.State parts.name parts.comp)))

-- the word of a composition, or none
pub comp_spelled : (comp : CompText) → WordsSpell maybe_comp (λ c. c) (words_in (comp_pieces comp)) comp
unfolding maybe_comp comp comp_pieces space key
comp_spelled comps.None = spell_right comp_heads (spell_give comps.None refl)
comp_spelled comps.Or =
    spell_left comp_heads (spell_left (is kinds.Or) (spell_word kinds.Or (spell_give comps.Or refl)))
comp_spelled comps.And =
    spell_left comp_heads (spell_right (is kinds.Or) (spell_word kinds.And (spell_give comps.And refl)))

-- ---- sorted items without places

-- without places
abbrev pub unplaced_sorted : Sorted → Sorted
unplaced_sorted s = record {
  parts = unplaced_parts s.parts;
  states = unplaced_states s.states;
  events = map unplaced_event s.events;
  vars = map unplaced_var s.vars;
}

-- places decide on no order
sorted_alike : (name : NameText) (c : CompText) (xs : List Item)
    → unplaced_sorted (sorted name c xs) ≡ sorted (unplaced_name name) c (map unplaced_item xs)
sorted_alike name c [] = refl
sorted_alike name c (x ∷ xs) =
    put_alike x (sorted name c xs) ∙ ap (λ (s : Sorted). put (unplaced_item x) s) (sorted_alike name c xs)
  where
    put_alike : (x : Item) (s : Sorted) → unplaced_sorted (put x s) ≡ put (unplaced_item x) (unplaced_sorted s)
    put_alike (Entry block) s = refl
    put_alike (During block) s = refl
    put_alike (Exit block) s = refl
    put_alike (History at) s = refl
    put_alike (Outer t) s = refl
    put_alike (Inner t) s = refl
    put_alike (Default t) s = refl
    put_alike (JunctionItem j) s = refl
    put_alike (StateItem t) s = refl
    put_alike (EventItem e) s = refl
    put_alike (VarItem v) s = refl

-- items that sort so without places sort so with the name and composition that were spelled
pub sorted_left : (name there : NameText) → unplaced_name name ≡ there → (c word : CompText) → c ≡ word
    → (xs : List Item) (s : Sorted)
    → sorted there word (map unplaced_item xs) ≡ s → unplaced_sorted (sorted name c xs) ≡ s
sorted_left name there named c word composed xs s e = sorted_alike name c xs ∙ rw (named, composed) e

-- places decide on no composition
comp_alike : (comp : CompText) (states : States) → comp_with comp (unplaced_states states) ≡ comp_with comp states
comp_alike comps.None NoState = refl
comp_alike comps.None (MoreStates first others) = refl
comp_alike comps.Or states = refl
comp_alike comps.And states = refl

-- the state of sorted items without its places
pub state_with_alike : (s : Sorted) → unplaced_state (state_with s) ≡ state_with (unplaced_sorted s)
state_with_alike s =
    ap (λ (c : CompText). StateOf (record (unplaced_parts s.parts) { comp = c }) (unplaced_states s.states))
    (sym (comp_alike s.parts.comp s.states))

-- the state of what the canonical items leave
pub state_of_left : (parts : Parts) (states : States) → IsComp parts.comp states
    → (events : List EventText) (vars : List Var)
    → state_with
    (record { parts = unplaced_parts parts; states = unplaced_states states; events = events; vars = vars })
    ≡ unplaced_state (StateOf parts states)
state_of_left parts states h events vars =
    ap (λ (c : CompText). StateOf (record (unplaced_parts parts) { comp = c }) (unplaced_states states))
    (comp_alike parts.comp states ∙ h)

-- ---- one item of a state

-- where the items of a state stand
abbrev pub in_state : StateGrammar → NameText → CompText → Place
in_state st name comp = record { set = item_heads; item = item usual st; name = name; comp = comp }

module _ (t : TransitionClaims) (level : ℕ) (nested : State → Type 0) (st : StateGrammar)
    (reads : (n : Counts) (s : State) → nested s → IsWithin (n ⊕ size_of_state s)
    → WordsSpell (st n) (counted unplaced_state) (words_in (state_pieces level s))
    (behind (unplaced_state s) (n ⊕ size_of_state s))) where
  -- each item of a state
  pub state_readers : (name : NameText) (comp : CompText) → Readers (in_state st name comp) level IsBlock IsTrans nested
  unfolding item
  state_readers name comp = record {
    entry = λ z q b h within.
        spell_beginning (item_heads z) kinds.Entry _ (keyed_leads kinds.Entry (block_pieces b)) (rw q refl)
        (spell_left (is kinds.Entry) (action_item_spelled t kinds.Entry Entry (λ b. refl) z.counts b h within));
    during = λ z q b h within.
        spell_beginning (item_heads z) kinds.During _ (keyed_leads kinds.During (block_pieces b)) (rw q refl)
        (spell_right (is kinds.Entry)
        (spell_left (is kinds.During) (action_item_spelled t kinds.During During (λ b. refl) z.counts b h within)));
    exit = λ z q b h within.
        spell_beginning (item_heads z) kinds.Exit _ (keyed_leads kinds.Exit (block_pieces b)) (rw q refl)
        (spell_right (is kinds.Entry)
        (spell_right (is kinds.During)
        (spell_left (is kinds.Exit) (action_item_spelled t kinds.Exit Exit (λ b. refl) z.counts b h within))));
    history = λ z q.
        spell_beginning (item_heads z) kinds.History _ history_leads (rw q refl)
        (spell_right (is kinds.Entry)
        (spell_right (is kinds.During)
        (spell_right (is kinds.Exit)
        (spell_left (is kinds.History) (history_item_spelled z.counts)))));
    outer = λ z x h within.
        spell_beginning (item_heads z) kinds.Outer _ (keyed_leads kinds.Outer (trans_pieces x)) refl
        (spell_right (is kinds.Entry)
        (spell_right (is kinds.During)
        (spell_right (is kinds.Exit)
        (spell_right (is kinds.History)
        (spell_left (is kinds.Outer) (trans_item_spelled t kinds.Outer Outer (λ x. refl) z.counts x h within))))));
    inner = λ z x h within.
        spell_beginning (item_heads z) kinds.Inner _ (keyed_leads kinds.Inner (trans_pieces x)) refl
        (spell_right (is kinds.Entry)
        (spell_right (is kinds.During)
        (spell_right (is kinds.Exit)
        (spell_right (is kinds.History)
        (spell_right (is kinds.Outer)
        (spell_left (is kinds.Inner) (trans_item_spelled t kinds.Inner Inner (λ x. refl) z.counts x h within)))))));
    default = λ z x h within.
        spell_beginning (item_heads z) kinds.Default _ (keyed_leads kinds.Default (trans_pieces x)) refl
        (spell_right (is kinds.Entry)
        (spell_right (is kinds.During)
        (spell_right (is kinds.Exit)
        (spell_right (is kinds.History)
        (spell_right (is kinds.Outer)
        (spell_right (is kinds.Inner)
        (spell_left (is kinds.Default)
        (trans_item_spelled t kinds.Default Default (λ x. refl) z.counts x h within))))))));
    junction = λ z x h within.
        spell_beginning (item_heads z) kinds.Junction _ (junction_leads level x) refl
        (spell_right (is kinds.Entry)
        (spell_right (is kinds.During)
        (spell_right (is kinds.Exit)
        (spell_right (is kinds.History)
        (spell_right (is kinds.Outer)
        (spell_right (is kinds.Inner)
        (spell_right (is kinds.Default)
        (spell_left (is kinds.Junction) (junction_item_spelled t level z.counts x h within)))))))));
    state = λ z x h within.
        spell_beginning (item_heads z) kinds.State _ (state_leads level x) refl
        (spell_right (is kinds.Entry)
        (spell_right (is kinds.During)
        (spell_right (is kinds.Exit)
        (spell_right (is kinds.History)
        (spell_right (is kinds.Outer)
        (spell_right (is kinds.Inner)
        (spell_right (is kinds.Default)
        (spell_right (is kinds.Junction)
        (spell_made (reads z.counts x h within)
        (λ found e. ap (λ (y : Counted State). counted_as StateItem y) e))))))))));
  }

-- ---- states

-- the counts after a state are those of all its items
behind_state : (n : Counts) (parts : Parts) (states : States)
    → behind_all (after_state n) parts states ≡ n ⊕ size_of_state (StateOf parts states)
behind_state n parts states =
    let nested = listed_sizes states in
    rw nested (same_counts _ _ (omega arith))

-- the words of a state, one part after the other
state_words : (level : ℕ) (parts : Parts) (states : States) → words_in (state_pieces level (StateOf parts states))
    ≡ keyword kinds.State ∷ (words_in (name_pieces parts.name) ++ (words_in (comp_pieces parts.comp)
    ++ (keyword kinds.OpenBrace ∷ (words_in (parts_pieces (level + 1) parts ++ states_pieces (level + 1) states)
    ++ (keyword kinds.CloseBrace ∷ [])))))
unfolding state_pieces
state_words level parts states =
    simp (words_in-append, append_assoc, head_words, end_words)

-- what a state has, as its items have it
state_items : (deep : ℕ) (parts : Parts) (states : States) → IsParts parts → IsStates deep states
    → HasItems IsBlock IsTrans (IsNested deep) parts states
state_items deep parts states h nested = record {
  entry = h.entry;
  during = h.during;
  exit = any_block parts.exit h.exit;
  default = h.default;
  inner = h.inner;
  outer = h.outer;
  junctions = h.junctions;
  states = listed_nested deep states nested;
}

module _ (e : ExpressionClaims) (t : TransitionClaims) where
  -- what stands after the word `state`
  state_body_spelled : (deep : ℕ) (st : StateGrammar) (level : ℕ)
      → ((n : Counts) (s : State) → IsNested deep s → IsWithin (n ⊕ size_of_state s)
      → WordsSpell (st n) (counted unplaced_state) (words_in (state_pieces (level + 1) s))
      (behind (unplaced_state s) (n ⊕ size_of_state s)))
      → (n : Counts) (parts : Parts) (states : States) → IsState deep (StateOf parts states)
      → IsWithin (n ⊕ size_of_state (StateOf parts states))
      → WordsSpell (state_body usual st (after_state n)) (counted unplaced_state)
      (words_in (name_pieces parts.name) ++ (words_in (comp_pieces parts.comp)
      ++ (keyword kinds.OpenBrace ∷ (words_in (parts_pieces (level + 1) parts ++ states_pieces (level + 1) states)
      ++ (keyword kinds.CloseBrace ∷ [])))))
      (behind (unplaced_state (StateOf parts states)) (n ⊕ size_of_state (StateOf parts states)))
  unfolding state_body items
  state_body_spelled deep st level reads n parts states h within =
      let p : Place = in_state st (unplaced_name parts.name) parts.comp in
      let all : IsWithin (behind_all (after_state n) parts states) = rw (behind_state n parts states) within in
      let readers = state_readers t (level + 1) (IsNested deep) st reads (unplaced_name parts.name) parts.comp in
      let tail =
      parts_tail readers parts states (state_items deep parts states h.0 h.2) (after_state n) all
      (nothing_seen (after_state n)) (refl, refl, refl, refl) refl in
      spell_then (e.name_spelled parts.name) (λ name named.
      spell_then (comp_spelled parts.comp) (λ c composed.
      spell_word kinds.OpenBrace
      (spell_then tail (λ found sorts.
      spell_word kinds.CloseBrace
      (spell_give _ (looks name named c composed found sorts))))))
    where
      looks : (name : NameText) → unplaced_name name ≡ unplaced_name parts.name → (c : CompText) → c ≡ parts.comp
          → (found : List (Counted Item))
          → left (in_state st (unplaced_name parts.name) parts.comp) (after_state n) found
          ≡ (
            record (no_items
                (unplaced_name parts.name) parts.comp) {
                  parts = unplaced_parts parts;
                  states =
                      unplaced_states states;
                },
            behind_all (after_state n) parts states,
          )
          → counted unplaced_state
          (record { value = state_with (sorted name c (values found)); counts = counts_behind (after_state n) found })
          ≡ behind (unplaced_state (StateOf parts states)) (n ⊕ size_of_state (StateOf parts states))
      looks name named c composed found sorts =
          let n1 : Counts = after_state n in
          let s : Sorted = sorted name c (values found) in
          let whole : Sorted = record
          (no_items (unplaced_name parts.name) parts.comp) { parts = unplaced_parts parts; states = unplaced_states states } in
          let put_so : unplaced_sorted s ≡ whole =
          sorted_left name _ named c _ composed (values found) whole (ap (λ (x : Sorted × Counts). x.0) sorts) in
          let value : unplaced_state (state_with s) ≡ unplaced_state (StateOf parts states) =
          state_with_alike s ∙ ap state_with put_so ∙ state_of_left parts states h.1 [] [] in
          let counts : counts_behind n1 found ≡ n ⊕ size_of_state (StateOf parts states) =
          ap (λ (x : Sorted × Counts). x.1) sorts ∙ behind_state n parts states in
          rw (value, counts) refl

  -- a state over states whose words spell them
  state_over_spelled : (deep : ℕ) (st : StateGrammar) (level : ℕ)
      → ((n : Counts) (s : State) → IsNested deep s → IsWithin (n ⊕ size_of_state s)
      → WordsSpell (st n) (counted unplaced_state) (words_in (state_pieces (level + 1) s))
      (behind (unplaced_state s) (n ⊕ size_of_state s)))
      → (n : Counts) (s : State) → IsState deep s → IsWithin (n ⊕ size_of_state s)
      → WordsSpell (state_over usual st n) (counted unplaced_state) (words_in (state_pieces level s))
      (behind (unplaced_state s) (n ⊕ size_of_state s))
  unfolding state_over
  state_over_spelled deep st level reads n (StateOf parts states) h within =
      let room : IsWithin (after_state n) =
      within_front (after_state n) (size_of_parts parts ⊕ size_of_states states)
      (rw (one_state n (size_of_parts parts ⊕ size_of_states states)) within) in
      rw (state_words level parts states)
      (spell_allowed_word kinds.State (state_room n room)
      (state_body_spelled deep st level reads n parts states h within))

  -- states nested to a depth at most
  pub state_spelled : (deep : ℕ) (level : ℕ) (n : Counts) (s : State) → IsNested deep s → IsWithin (n ⊕ size_of_state s)
      → WordsSpell (state usual deep n) (counted unplaced_state) (words_in (state_pieces level s))
      (behind (unplaced_state s) (n ⊕ size_of_state s))
  unfolding state
  state_spelled zero level n s h within = absurd h
  state_spelled (suc deeper) level n s h within =
      state_over_spelled deeper (state usual deeper) level (state_spelled deeper (level + 1)) n s h within
