-- What a spelled state or chart has.
-- `x_has` says what is so of each x that tokens cut from a text spell.
use Rattle.std.proofs.Common.{◌≡◌, ℕ, zero, suc, List, [], ◌∷◌, refl, ap, sym, ◌∙◌, subst, arith}
use Rattle.std.specs.List.{AllByRecursion}
use Rattle.token_grammar.specs.Token.{Lexeme}
use Rattle.token_grammar.specs.Grammar.{token, many_from}
use Rattle.chart_tree.specs.declared.name.NameText.{NameText}
use Rattle.chart_tree.specs.declared.state.CompText.{CompText}
use Rattle.chart_tree.specs.declared.state.CompText.TheVariants as comps
use Rattle.chart_tree.specs.Trees.{Parts, State, States, NoState, MoreStates, Chart}
use Rattle.chart_grammar.specs.Limits.{Counts, Counted, usual, after_state}
use Rattle.chart_grammar.specs.States.{values, counts_behind, Item, Exit, Outer, EventItem, VarItem, Seen}
use Rattle.chart_grammar.specs.States.{nothing_seen, StateGrammar, next_item, next_chart_item, items, chart_items}
use Rattle.chart_grammar.specs.States.{Sorted, sorted, comp_with, state_with, state_body, state_over, no_state, state}
use Rattle.chart_grammar.specs.States.{at_begin, chart_with, chart}
use Rattle.canonical_text.specs.Sizes.{◌⊕◌, size_of_parts, size_of_state, size_of_states, size_of_chart, IsWithin}
use Rattle.canonical_text.specs.Terms.{IsParts, IsState, IsChart}
use Rattle.canonical_text.specs.Claims.{AreCut, ExpressionClaims, TransitionClaims, Adds}
use Rattle.canonical_text.proofs.Counts.{same_counts, one_state}
use Rattle.canonical_text.proofs.Cut.{cut_first, cut_second}
use Rattle.canonical_text.proofs.Room.{state_within}
use Rattle.canonical_text.proofs.SortedItems.{size_of_sorted, made_parts, gathered}
use Rattle.canonical_text.proofs.ItemsHave.{InState, InChart, StatesHave, item_has, chart_item_has}

-- ---- sorted items of a state, and of a chart

-- a state declares nothing
no_events : (name : NameText) (c : CompText) (xs : List Item) → AllByRecursion InState xs
    → (sorted name c xs).events ≡ []
no_events name c [] all = refl
no_events name c (EventItem e ∷ xs) all = absurd all.0
no_events name c (x ∷ xs) all = no_events name c xs all.1

-- items of a state declare no data
no_vars : (name : NameText) (c : CompText) (xs : List Item) → AllByRecursion InState xs → (sorted name c xs).vars ≡ []
no_vars name c [] all = refl
no_vars name c (VarItem v ∷ xs) all = absurd all.0
no_vars name c (x ∷ xs) all = no_vars name c xs all.1

-- a chart has no exit action and no outer transition
no_exits : (name : NameText) (c : CompText) (xs : List Item) → AllByRecursion InChart xs
    → (sorted name c xs).parts.exit ≡ []
no_exits name c [] all = refl
no_exits name c (Exit b ∷ xs) all = absurd all.0
no_exits name c (x ∷ xs) all = no_exits name c xs all.1

-- items of the chart are no outer transitions
no_outer : (name : NameText) (c : CompText) (xs : List Item) → AllByRecursion InChart xs
    → (sorted name c xs).parts.outer ≡ []
no_outer name c [] all = refl
no_outer name c (Outer t ∷ xs) all = absurd all.0
no_outer name c (x ∷ xs) all = no_outer name c xs all.1

-- so it has the size of its parts and its child states
size_of_undeclared : (s : Sorted) → s.events ≡ [] → s.vars ≡ []
    → size_of_sorted s ≡ size_of_parts s.parts ⊕ size_of_states s.states
size_of_undeclared s e v =
    rw (e, v) (same_counts _ _ (omega arith))

-- a composition that child states make is one with them
comp_again : (c : CompText) (states : States) → comp_with (comp_with c states) states ≡ comp_with c states
comp_again comps.None NoState = refl
comp_again comps.None (MoreStates first others) = refl
comp_again comps.Or states = refl
comp_again comps.And states = refl

-- the composition has no part in what the parts have
with_comp : (p : Parts) (c : CompText) → IsParts p → IsParts (record p { comp = c })
with_comp p c h = made_parts _ h.name h.entry h.during h.exit h.outer h.inner h.default h.junctions

-- ---- states

module _ (e : ExpressionClaims) (t : TransitionClaims) where
  -- a state over states that have what they should
  state_over_has : (deep : ℕ) (st : StateGrammar) → StatesHave deep st
      → (n : Counts) (u : List Lexeme) (x : Counted State) → AreCut u
      → (state_over usual st n).spells u x → IsState deep x.value × Adds n (size_of_state x.value) x.counts
  unfolding state_over state_body items many_from token
  state_over_has deep st states n u x cut w =
      let named = w.second in
      let cut_named = cut_second w cut in
      let composed = named.second in
      let opened = composed.second in
      let body = opened.second in
      let cut_body = cut_second opened (cut_second composed (cut_second named cut_named)) in
      let name : NameText = named.x in
      let c : CompText = composed.x in
      let has_name = e.name_has named.p name (cut_first named cut_named) named.first in
      let n1 : Counts = after_state n in
      let z : Seen = nothing_seen n1 in
      let g =
      gathered deep InState name c (λ z. (next_item usual st z).spells)
      (λ z u x cut s. item_has t deep st states z u x cut s)
      z body.p body.x has_name (cut_first body cut_body) body.first in
      let s : Sorted = sorted name c (values body.x) in
      let size = size_of_undeclared s (no_events name c (values body.x) g.places)
      (no_vars name c (values body.x) g.places) in
      let closed = body.second in
      let begun = w.first.1 in
      let token_is = begun.0 in
      let kind_is = begun.1 in
      let allowed_so = rw (token_is, kind_is) at w.first.0 in
      let whole : counts_behind n1 body.x ≡ n ⊕ size_of_state (state_with s) =
      g.count ∙ ap (λ (k : Counts). n1 ⊕ k) size ∙ one_state n (size_of_parts s.parts ⊕ size_of_states s.states) in
      let has : IsState deep (state_with s) = (
        with_comp s.parts
            (comp_with s.parts.comp s.states) g.fine.parts,
        comp_again s.parts.comp s.states,
        g.fine.states,
      ) in
      let adds : Adds n (size_of_state (state_with s)) (counts_behind n1 body.x) =
      record { count = whole; within = λ h. g.within (state_within n allowed_so h) } in
      subst (λ (y : Counted State). IsState deep y.value × Adds n (size_of_state y.value) y.counts)
      (sym closed.second.1) (has, adds)

  -- states nested to a depth at most
  state_has : (deep : ℕ) → StatesHave deep (state usual deep)
  unfolding state no_state token
  state_has zero n u x cut w =
      let token_is = w.first.1.0 in
      let kind_is = w.first.1.1 in
      absurd (let bad = rw (token_is, kind_is) at w.first.0 in cc)
  state_has (suc deeper) n u x cut w = state_over_has deeper (state usual deeper) (state_has deeper) n u x cut w

  -- every chart that is spelled
  pub chart_has : (u : List Lexeme) (x : Chart) → AreCut u → (chart usual).spells u x → IsChart x
  unfolding chart chart_items many_from
  chart_has u x cut w =
      let named = w.second in
      let cut_named = cut_second w cut in
      let composed = named.second in
      let opened = composed.second in
      let body = opened.second in
      let cut_body = cut_second opened (cut_second composed (cut_second named cut_named)) in
      let name : NameText = named.x in
      let c : CompText = composed.x in
      let has_name = e.name_has named.p name (cut_first named cut_named) named.first in
      let st : StateGrammar = state usual usual.depth in
      let z : Seen = nothing_seen at_begin in
      let g =
      gathered usual.depth InChart name c (λ z. (next_chart_item usual st z).spells)
      (λ z u x cut s. chart_item_has t usual.depth st (state_has usual.depth) z u x cut s) z body.p body.x has_name
      (cut_first body cut_body) body.first in
      let s : Sorted = sorted name c (values body.x) in
      let closed = body.second in
      let whole : counts_behind at_begin body.x ≡ size_of_chart (chart_with s) = g.count ∙ regrouped s in
      let behind_it : IsWithin (counts_behind at_begin body.x) = g.within first_within in
      let has : IsChart (chart_with s) = record {
        events = g.fine.events;
        vars = g.fine.vars;
        parts = with_comp s.parts (comp_with s.parts.comp s.states) g.fine.parts;
        comp = comp_again s.parts.comp s.states;
        states = g.fine.states;
        stays = no_exits name c (values body.x) g.places;
        inside = no_outer name c (values body.x) g.places;
        within = rw whole at behind_it;
      } in
      subst IsChart (sym closed.second.1) has
    where
      regrouped : (s : Sorted) → at_begin ⊕ size_of_sorted s ≡ size_of_chart (chart_with s)
      regrouped s = same_counts _ _ (omega arith)

      first_within : IsWithin at_begin
      first_within = omega arith
