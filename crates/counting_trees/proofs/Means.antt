-- What is counted is an event, and the counter is one of the text.
use Rattle.std.proofs.Common.{◌≡◌, ℕ, zero, suc, ◌<◌, List, [], ◌∷◌, ◌++◌, length, Option, Some, None, refl, sym, ap}
use Rattle.std.proofs.Common.{◌∙◌, subst, arith, flat_map}
use Rattle.std.specs.Prelude.{slice_get, Contains}
use Rattle.token_grammar.specs.declared.token.Span.{Span}
use Rattle.chart_tree.specs.declared.name.NameText.{NameText}
use Rattle.chart_tree.specs.declared.first.FaultAt.{FaultAt}
use Rattle.chart_tree.specs.Trees as trees
use Rattle.chart_tree.specs.Trees.{State, StateOf}
use Rattle.checked_chart.specs.Chart.{Chart}
use Rattle.chart_structure.proofs.LinkLemmas.{stands_at}
use Rattle.chart_places.specs.Placed.{Placed, placed_states, placed_from, placed_junctions}
use Rattle.chart_places.specs.Scopes.{Scopes, scopes_of, Meaning, Event, Datum, meaning_of}
use Rattle.chart_scope.specs.Uses.{event_faults, trans_faults, trigger_faults, guard_faults, block_faults, list_faults}
use Rattle.chart_scope.specs.Uses.{dest_faults, meaning_number}
use Rattle.chart_scope.specs.Names.{name_faults, used_in_states, used_in_junctions, parts_faults, doubled_events, doubled_vars}
use Rattle.chart_scope.specs.Names.{doubled_states, doubled_junctions}
use Rattle.counting_trees.specs.Counters.{Counter, count_trans, events_of}
use Rattle.counting_trees.specs.Counting.{own, all_of, with_counting, counting, counting_list}
use Rattle.counting_trees.specs.Numbers.{number_of}
use Rattle.counting_trees.specs.Written.{IsWrittenOut, IsCounterIn}
use Rattle.counting_trees.proofs.Lists.{no_first, no_rest, flat-append, Has, has_in, get_map}
use Rattle.counting_trees.proofs.Placed.{counted_all}
use Rattle.counting_trees.proofs.Faults.{counting_faults}
use Rattle.counting_trees.proofs.Counters.{means_datum_of}
use Rattle.counting_trees.proofs.Tally.{holder, once_counted, is_counter_of}
use Rattle.counting_trees.proofs.First.{first_is, no_input}

-- a name without a fault where an event is wanted means one
means_event_of : (o : Option Meaning) (at : Span) → event_faults o at ≡ [] → o ≡ Some (Event (meaning_number o))
means_event_of None at e = absurd cc
means_event_of (Some (Event n)) at e = refl
means_event_of (Some (Datum n)) at e = absurd cc

-- what has no faults in a list has none at an item
none_at : {A : Type 0} (f : A → List FaultAt) (xs : List A) (x : A) → Has xs x → flat_map f xs ≡ [] → f x ≡ []
none_at f [] x (i, e) none = absurd cc
none_at f (y ∷ xs) x (zero, e) none =
    let same : y ≡ x = cc in ap f (sym same) ∙ no_first (f y) (flat_map f xs) none
none_at f (y ∷ xs) x (suc i, e) none = none_at f xs x (i, e) (no_rest (f y) (flat_map f xs) none)

-- the transitions in front of the first inner list have no faults
front_none : (p : Scopes) (ks : List (List Counter)) (first : List trees.Trans) (xs : List Placed)
    → 0 < length xs → used_in_states p 0 (counted_all ks 0 first xs) ≡ [] → list_faults p 0 first ≡ []
front_none p ks first [] some none = absurd (omega (arith, some))
front_none p ks first (x ∷ xs) some none =
    let q = with_counting (own ks 0) first x.parts in
    let here = no_first (parts_faults p 0 q) (used_in_states p 1 (counted_all ks 1 [] xs)) none in
    let e = block_faults p 0 q.entry in
    let d = block_faults p 0 q.during in
    let g = block_faults p 0 q.exit in
    let o = list_faults p 0 q.outer in
    let i = list_faults p 0 q.inner in
    let inner = no_rest (e ++ d ++ g ++ o) i (no_first (e ++ d ++ g ++ o ++ i) (list_faults p 0 q.default) here) in
    no_first (list_faults p 0 first) (list_faults p 0 x.parts.inner)
    (sym (flat-append (trans_faults p 0) first x.parts.inner) ∙ inner)

some_placed : (x : State) → 0 < length (placed_from None 0 x)
some_placed (StateOf p below) = omega arith

module _ (ks : List (List Counter)) (t : trees.Chart) (faultless : name_faults (counting ks t) ≡ []) where
  counting_faultless : list_faults (scopes_of t) 0 (counting_list ks) ≡ []
  unfolding placed_states
  counting_faultless =
      let p = scopes_of t in
      let none = sym (counting_faults ks t) ∙ faultless in
      let doubled = doubled_events p 0 p.events ++ doubled_vars p 0 p.vars ++ doubled_states p 0 p.states
      ++ doubled_junctions p 0 p.junctions in
      let used = used_in_states p 0 (counted_all ks 0 (counting_list ks) (placed_states t.root)) in
      front_none p ks (counting_list ks) (placed_states t.root) (some_placed t.root)
      (no_rest doubled used
      (no_first (doubled ++ used) (used_in_junctions p (placed_junctions (placed_states t.root))) none))

  trigger_none : (e : NameText) → Has (events_of (all_of ks)) e
      → event_faults (meaning_of (scopes_of t) e.text) e.at ≡ []
  trigger_none e h =
      let p = scopes_of t in
      let x = count_trans (all_of ks) e in
      let none = none_at (trans_faults p 0) (counting_list ks) x
      (h.0, get_map (count_trans (all_of ks)) (events_of (all_of ks)) h.0 e h.1) counting_faultless in
      let a = trigger_faults p x.event in
      let g = guard_faults p 0 x.guard in
      let c = block_faults p 0 x.cond in
      let b = block_faults p 0 x.act in
      no_first a g (no_first (a ++ g) c (no_first (a ++ g ++ c) b
      (no_first (a ++ g ++ c ++ b) (dest_faults p 0 x.dest) none)))

-- each counter of a state is the counter of its event for the state
pub counter_in : (ks : List (List Counter)) (t : trees.Chart) (c d : Chart) (s : ℕ) (l : List Counter) (k : Counter)
    → IsWrittenOut ks t c d → slice_get ks s ≡ Some l → Contains l k → IsCounterIn ks t c s k
counter_in ks t c d s l k w stands within =
    let there : Has l k = (within.0, stands_at l k within) in
    let h : Has (all_of ks) k = has_in ks l s k stands there in
    let none = w.without.resolves.faultless in
    let one = once_counted ks t w.ready none s l stands k there in
    let r = holder k.event.text (events_of (all_of ks)) one in
    record {
      datum_is = means_datum_of ks t w.ready none h.0 k h.1;
      event_is =
          subst (λ u. meaning_of (scopes_of t) u ≡ Some (Event (number_of (scopes_of t) u))) (sym r.2)
          (means_event_of (meaning_of (scopes_of t) r.0.text) r.0.at
          (trigger_none ks t w.whole.resolves.faultless r.0 r.1));
      counter = is_counter_of ks t w.ready none s l stands k there;
      first = first_is ks t c d w k h;
      no_input = no_input ks t c d w k h;
    }
