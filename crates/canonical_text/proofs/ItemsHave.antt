-- What a spelled item of a state or of a chart has.
-- `x_has` says what is so of each x that tokens cut from a text spell.
use Rattle.std.proofs.Common.{◌≡◌, ℕ, Bool, true, false, not, ◌||◌, List, ◌∷◌, ◌++◌, None, inl, inr, refl, ap, sym}
use Rattle.std.proofs.Common.{◌∙◌, subst}
use Rattle.std.proofs.lemmas.Bool.{cases_Bool}
use Rattle.token_grammar.specs.declared.token.Kind.{Kind}
use Rattle.token_grammar.specs.declared.token.Kind.TheVariants as kinds
use Rattle.token_grammar.specs.declared.token.Span.{Span}
use Rattle.token_grammar.specs.Token.{Lexeme, kind_eq}
use Rattle.token_grammar.specs.Grammar.{Grammar, is, token, give, ◌>>=◌, first_refused}
use Rattle.token_grammar.proofs.Tokens.{kind_eq-true}
use Rattle.chart_tree.specs.Trees.{Stmt, Trans, Junction, State}
use Rattle.chart_grammar.specs.Limits.{Counts, Counted, usual, after_event, after_variable}
use Rattle.chart_grammar.specs.Transitions.{keyword_trans}
use Rattle.chart_grammar.specs.States.{Item, Entry, During, Exit, History, Outer, Inner, Default, JunctionItem}
use Rattle.chart_grammar.specs.States.{StateItem, EventItem, VarItem, Seen, counted_as, StateGrammar, junction}
use Rattle.chart_grammar.specs.States.{action_item, history_item, trans_item, junction_item, event_item}
use Rattle.chart_grammar.specs.States.{variable_item, item_heads, chart_heads, item, chart_item, unexpected}
use Rattle.chart_grammar.specs.States.{next_item, next_chart_item}
use Rattle.canonical_text.specs.Sizes.{none, ◌⊕◌, size_of_block, size_of_state, IsWithin}
use Rattle.canonical_text.specs.Terms.{IsBlock}
use Rattle.canonical_text.specs.Claims.{AreCut, TransitionClaims, Adds, behind}
use Rattle.canonical_text.proofs.Counts.{sum-none, one_block, one_event, one_variable}
use Rattle.canonical_text.proofs.Cut.{cut_first, cut_second}
use Rattle.canonical_text.proofs.PartsSpelled.{IsNested}
use Rattle.canonical_text.proofs.SortedItems.{IsNextItem}

-- ---- in general

-- what begins where only a set may begin, begins with a token of the set
first_in : (set : Kind → Bool) (k : Kind) (u : List Lexeme) (t : Lexeme) (q : List Lexeme) → u ≡ t ∷ q
    → kind_eq t.kind k ≡ true
    → first_refused (λ j. true) (unexpected set) u ≡ None → set k ≡ true
first_in set k u t q e same passes =
    let kind : t.kind ≡ k = kind_eq-true t.kind k same in
    let begun = rw (e, kind) at passes in
    elim (cases_Bool (set k)) [
      | inl there ↦ there
      | inr away ↦ absurd (let bad = rw away at begun in cc)
    ]

-- what is made of one counted value
counted_has : {X : Type 0} (deep : ℕ) (may : Item → Type 0) (z : Seen) (kind : X → Item) (g : Grammar (Counted X))
    (u : List Lexeme) (x : Counted Item)
    → AreCut u → ((p : List Lexeme) (v : Counted X) → AreCut p → g.spells p v → IsNextItem deep may z (counted_as kind v))
    → (g >>= λ v. give (counted_as kind v)).spells u x → IsNextItem deep may z x
counted_has deep may z kind g u x cut has w =
    subst (IsNextItem deep may z) (sym w.second.1) (has w.p w.x (cut_first w cut) w.first)

-- an action that may come has not been seen
is_new : (seen : Bool) → (not seen || false) ≡ true → seen ≡ false
is_new true h = absurd cc
is_new false h = refl

-- ---- items of states and charts

-- what may stand in a state, and what in a chart
abbrev pub InState : Item → Type 0
InState (Entry block) = Unit {0}
InState (During block) = Unit {0}
InState (Exit block) = Unit {0}
InState (History at) = Unit {0}
InState (Outer x) = Unit {0}
InState (Inner x) = Unit {0}
InState (Default x) = Unit {0}
InState (JunctionItem j) = Unit {0}
InState (StateItem s) = Unit {0}
InState (EventItem e) = ⊥
InState (VarItem v) = ⊥

-- what may stand in the chart
abbrev pub InChart : Item → Type 0
InChart (Entry block) = Unit {0}
InChart (During block) = Unit {0}
InChart (Exit block) = ⊥
InChart (History at) = Unit {0}
InChart (Outer x) = ⊥
InChart (Inner x) = Unit {0}
InChart (Default x) = Unit {0}
InChart (JunctionItem j) = Unit {0}
InChart (StateItem s) = Unit {0}
InChart (EventItem e) = Unit {0}
InChart (VarItem v) = Unit {0}

-- the states nested in a state or a chart, as they are spelled
abbrev pub StatesHave : ℕ → StateGrammar → Type 0
StatesHave deep st = (n : Counts) (u : List Lexeme) (x : Counted State) → AreCut u → (st n).spells u x
    → IsNested deep x.value × Adds n (size_of_state x.value) x.counts

module _ (t : TransitionClaims) (deep : ℕ) (st : StateGrammar) (states : StatesHave deep st)
    (z : Seen) (u : List Lexeme) (x : Counted Item) (cut : AreCut u) where
  -- an action, which stands where a token of the set may
  action_has : (may : Item → Type 0) (set : Kind → Bool) (k : Kind) (kind : List Stmt → Item)
      → ((b : List Stmt) → IsBlock b → (IsWithin z.counts → IsWithin (z.counts ⊕ size_of_block b)) → set k ≡ true
      → IsNextItem deep may z (behind (kind b) (z.counts ⊕ size_of_block b)))
      → first_refused (λ j. true) (unexpected set) u ≡ None → (action_item usual k kind z.counts).spells u x
      → IsNextItem deep may z x
  unfolding action_item token
  action_has may set k kind found passes w =
      let rest = w.second in
      let has = t.block_has z.counts rest.p rest.x (cut_first rest (cut_second w cut)) rest.first in
      let begun : u ≡ w.x ∷ w.q = w.parts ∙ ap (λ (p : List Lexeme). p ++ w.q) w.first.0 in
      let is = rest.second.1 ∙ ap (λ (m : Counts). behind (kind rest.x) m) (one_block z.counts rest.x) in
      subst (IsNextItem deep may z) (sym is) (found rest.x has.0 has.1 (first_in set k u w.x w.q begun w.first.1 passes))

  entry_has : (may : Item → Type 0) → ((b : List Stmt) → may (Entry b)) → (set : Kind → Bool)
      → (set kinds.Entry ≡ true → z.entry ≡ false)
      → first_refused (λ j. true) (unexpected set) u ≡ None
      → (action_item usual kinds.Entry Entry z.counts).spells u x → IsNextItem deep may z x
  entry_has may place set new =
      action_has may set kinds.Entry Entry (λ b fine within there.
      record { fine = fine; place = place b; adds = record { count = refl; within = within }; once = new there })

  during_has : (may : Item → Type 0) → ((b : List Stmt) → may (During b)) → (set : Kind → Bool)
      → (set kinds.During ≡ true → z.during ≡ false)
      → first_refused (λ j. true) (unexpected set) u ≡ None
      → (action_item usual kinds.During During z.counts).spells u x → IsNextItem deep may z x
  during_has may place set new =
      action_has may set kinds.During During (λ b fine within there.
      record { fine = fine; place = place b; adds = record { count = refl; within = within }; once = new there })

  exit_has : first_refused (λ j. true) (unexpected (item_heads z)) u ≡ None
      → (action_item usual kinds.Exit Exit z.counts).spells u x
      → IsNextItem deep InState z x
  exit_has =
      action_has InState (item_heads z) kinds.Exit Exit (λ b fine within there.
      record { fine = fine; place = record {}; adds = record { count = refl; within = within }; once = is_new z.exit there })

  -- the word `history`
  history_has : (may : Item → Type 0) → ((at : Span) → may (History at)) → (history_item z.counts).spells u x
      → IsNextItem deep may z x
  unfolding history_item
  history_has may place w =
      let adds : Adds z.counts none z.counts = record { count = sym (sum-none z.counts); within = λ h. h } in
      let found : IsNextItem deep may z (behind (History w.x.at) z.counts) =
      record { fine = record {}; place = place w.x.at; adds = adds; once = record {} } in
      subst (IsNextItem deep may z) (sym w.second.second.1) found

  -- transitions
  outer_has : (trans_item usual kinds.Outer Outer z.counts).spells u x → IsNextItem deep InState z x
  unfolding trans_item
  outer_has w =
      counted_has deep InState z Outer (keyword_trans usual (is kinds.Outer) z.counts) u x cut (λ p v c s.
      let h = t.trans_has kinds.Outer z.counts p v c s in
      record { fine = h.0; place = record {}; adds = h.1; once = record {} }) w

  inner_has : (may : Item → Type 0) → ((v : Trans) → may (Inner v))
      → (trans_item usual kinds.Inner Inner z.counts).spells u x → IsNextItem deep may z x
  unfolding trans_item
  inner_has may place w =
      counted_has deep may z Inner (keyword_trans usual (is kinds.Inner) z.counts) u x cut (λ p v c s.
      let h = t.trans_has kinds.Inner z.counts p v c s in
      record { fine = h.0; place = place v.value; adds = h.1; once = record {} }) w

  default_has : (may : Item → Type 0) → ((v : Trans) → may (Default v))
      → (trans_item usual kinds.Default Default z.counts).spells u x
      → IsNextItem deep may z x
  unfolding trans_item
  default_has may place w =
      counted_has deep may z Default (keyword_trans usual (is kinds.Default) z.counts) u x cut (λ p v c s.
      let h = t.trans_has kinds.Default z.counts p v c s in
      record { fine = h.0; place = place v.value; adds = h.1; once = record {} }) w

  -- junctions and states
  junction_has : (may : Item → Type 0) → ((v : Junction) → may (JunctionItem v))
      → (junction_item usual z.counts).spells u x → IsNextItem deep may z x
  unfolding junction_item
  junction_has may place w =
      counted_has deep may z JunctionItem (junction usual z.counts) u x cut (λ p v c s.
      let h = t.junction_has z.counts p v c s in
      record { fine = h.0; place = place v.value; adds = h.1; once = record {} }) w

  state_has : (may : Item → Type 0) → ((v : State) → may (StateItem v))
      → (st z.counts >>= λ v. give (counted_as StateItem v)).spells u x
      → IsNextItem deep may z x
  state_has may place w =
      counted_has deep may z StateItem (st z.counts) u x cut (λ p v c s.
      let h = states z.counts p v c s in
      record { fine = h.0; place = place v.value; adds = h.1; once = record {} }) w

  -- declarations
  event_has : (event_item usual z.counts).spells u x → IsNextItem deep InChart z x
  unfolding event_item
  event_has w =
      let h = t.event_has z.counts w.p w.x (cut_first w cut) w.first in
      let found : IsNextItem deep InChart z (behind (EventItem w.x) (after_event z.counts)) =
      record { fine = h.0; place = record {}; adds = record { count = one_event z.counts; within = h.1 }; once = record {} } in
      subst (IsNextItem deep InChart z) (sym w.second.1) found

  variable_has : (variable_item usual z.counts).spells u x → IsNextItem deep InChart z x
  unfolding variable_item
  variable_has w =
      let h = t.variable_has z.counts w.p w.x (cut_first w cut) w.first in
      let found : IsNextItem deep InChart z (behind (VarItem w.x) (after_variable z.counts)) =
      record { fine = h.0; place = record {}; adds = record { count = one_variable z.counts; within = h.1 }; once = record {} } in
      subst (IsNextItem deep InChart z) (sym w.second.1) found

  -- an item of a state
  pub item_has : (next_item usual st z).spells u x → IsNextItem deep InState z x
  unfolding item
  item_has w = of w.1
    where
      of : (item usual st z).spells u x → IsNextItem deep InState z x
      of (inl a) = entry_has InState (λ b. record {}) (item_heads z) (is_new z.entry) w.0 a
      of (inr (inl a)) = during_has InState (λ b. record {}) (item_heads z) (is_new z.during) w.0 a
      of (inr (inr (inl a))) = exit_has w.0 a
      of (inr (inr (inr (inl a)))) = history_has InState (λ at. record {}) a
      of (inr (inr (inr (inr (inl a))))) = outer_has a
      of (inr (inr (inr (inr (inr (inl a)))))) = inner_has InState (λ v. record {}) a
      of (inr (inr (inr (inr (inr (inr (inl a))))))) = default_has InState (λ v. record {}) a
      of (inr (inr (inr (inr (inr (inr (inr (inl a)))))))) = junction_has InState (λ v. record {}) a
      of (inr (inr (inr (inr (inr (inr (inr (inr a)))))))) = state_has InState (λ v. record {}) a

  -- an item of a chart
  pub chart_item_has : (next_chart_item usual st z).spells u x → IsNextItem deep InChart z x
  unfolding chart_item
  chart_item_has w = of w.1
    where
      of : (chart_item usual st z).spells u x → IsNextItem deep InChart z x
      of (inl a) = entry_has InChart (λ b. record {}) (chart_heads z) (is_new z.entry) w.0 a
      of (inr (inl a)) = during_has InChart (λ b. record {}) (chart_heads z) (is_new z.during) w.0 a
      of (inr (inr (inl a))) = history_has InChart (λ at. record {}) a
      of (inr (inr (inr (inl a)))) = inner_has InChart (λ v. record {}) a
      of (inr (inr (inr (inr (inl a))))) = default_has InChart (λ v. record {}) a
      of (inr (inr (inr (inr (inr (inl a)))))) = junction_has InChart (λ v. record {}) a
      of (inr (inr (inr (inr (inr (inr (inl a))))))) = event_has a
      of (inr (inr (inr (inr (inr (inr (inr (inl a)))))))) = variable_has a
      of (inr (inr (inr (inr (inr (inr (inr (inr a)))))))) = state_has InChart (λ v. record {}) a
