-- A checked chart has its structure exactly where its net is valid.
use Rattle.std.proofs.Common.{◌≡◌, ◌≢◌, ℕ, zero, suc, ◌+◌, ◌≤◌, ◌<◌, List, [], ◌∷◌, length, map, get_or, Option, Some}
use Rattle.std.proofs.Common.{None, Bool, true, false, cond, refl, sym, ap, ◌∙◌, subst, arith}
use Rattle.std.specs.Prelude.{◌||◌, IsSomeAnd, slice_get}
use Rattle.std.specs.List.{AllByRecursion, last_or, range_with_len}
use Rattle.std.specs.Option.{is_some}
use Rattle.std.proofs.lemmas.List.{length-map}
use Rattle.std.proofs.lemmas.List.Elements.{All-from_recursion, recursion_from_All}
use Rattle.std.proofs.lemmas.List.FromFn.{get_or-map-range_with_len}
use Rattle.std.proofs.lemmas.Option.{slice_get-get_or, slice_get_within, get_or_from_slice_get}
use Rattle.token_grammar.specs.declared.token.Span.{Span}
use Rattle.active_config.specs.declared.comp.Comp.TheVariants.{Leaf, Or}
use Rattle.active_config.specs.Tree.{Tree, IsTree, state_count, comp_of, children_of}
use Rattle.actions.specs.Exprs.{Expr}
use Rattle.checked_chart.specs.declared.limits.TheConstants.{PAIR_LIMIT}
use Rattle.checked_chart.specs.declared.parts.Dest.{Dest}
use Rattle.checked_chart.specs.declared.parts.Dest.TheVariants.{State, Junction}
use Rattle.checked_chart.specs.declared.parts.ListKind.{ListKind}
use Rattle.checked_chart.specs.declared.parts.ListKind.TheVariants.{Outer, Inner, Default}
use Rattle.checked_chart.specs.Chart as charts
use Rattle.checked_chart.specs.Chart.{Chart, Trans, node, junction}
use Rattle.checked_chart.specs.Reached as chart_reached
use Rattle.checked_chart.specs.Reached.{ChartPairs}
use Rattle.checked_chart.specs.Valid as chart_valid
use Rattle.checked_chart.specs.Valid.{MayLead, LeadsWell, HasStructure}
use Rattle.chart_structure.specs.declared.net.Arrow.{Arrow}
use Rattle.chart_structure.specs.Net.{Net, nowhere, no_node, no_junction, node_list, word_of, history_of, list_of}
use Rattle.chart_structure.specs.Net.{junction_count, junction_list}
use Rattle.chart_structure.specs.Reached.{links_of, NetPairs}
use Rattle.chart_structure.specs.Structure.{Leads}
use Rattle.chart_structure.specs.Valid.{Closes, IsValid}
use Rattle.chart_structure.specs.Charts.{arrow_of_trans, node_of_state, node_of_junction, net_of_chart}
use Rattle.chart_structure.proofs.MapLemmas.{Comes, from_map, into_map, map_empty, last_get}
use Rattle.chart_structure.proofs.LinkLemmas.{IsImage, kind_reached_back, kind_reached_on, kind_meets_back}
use Rattle.chart_structure.proofs.LinkLemmas.{kind_meets_on, below_back, below_on}

-- ---- lists

-- a transition that isn't open has neither event nor guard
closed_trans : (e : Option ℕ) (g : Option Expr) → (is_some e || is_some g) ≡ false → (e ≡ None) × (g ≡ None)
closed_trans None None h = (refl, refl)
closed_trans None (Some g) h = absurd cc
closed_trans (Some e) g h = absurd cc

trans_closed : (e : Option ℕ) (g : Option Expr) → e ≡ None → g ≡ None → (is_some e || is_some g) ≡ false
trans_closed None None a b = refl
trans_closed None (Some g) a b = absurd cc
trans_closed (Some e) g a b = absurd cc

closes_back : (list : List Trans) → Closes (map arrow_of_trans list) → chart_valid.Closes list
closes_back [] c = absurd (c.some refl)
closes_back (x ∷ xs) c =
    let at = slice_get-get_or (x ∷ xs) (length xs) x (omega arith) in
    let t : Trans = get_or (x ∷ xs) (length xs) x in
    let long = length-map (x ∷ xs) arrow_of_trans in
    let off = c.last (arrow_of_trans t) (length xs, omega arith, into_map arrow_of_trans (x ∷ xs) (length xs) t at) in
    subst (λ o. IsSomeAnd o (λ (t : Trans). (t.event ≡ None) × (t.guard ≡ None)))
    (sym (last_get (x ∷ xs) None (length xs) (omega arith) ∙ at)) (closed_trans t.event t.guard off)

closes_on : (list : List Trans) → chart_valid.Closes list → Closes (map arrow_of_trans list)
closes_on list c = record {
  some = λ e. subst chart_valid.Closes (map_empty arrow_of_trans list e) c;
  last = λ a l.
      let r = from_map arrow_of_trans list l.0 a l.2 in
      let last : last_or None list ≡ Some r.item = last_get list None l.0 (l.1 ∙ length-map list arrow_of_trans)
      ∙ r.is in
      let h = subst (λ o. IsSomeAnd o (λ (t : Trans). (t.event ≡ None) × (t.guard ≡ None))) last c in
      sym (ap (λ (x : Arrow). x.«open») r.same) ∙ trans_closed r.item.event r.item.guard h.0 h.1;
}

-- a destination leads well where each state that it may be does
dest_well : (t : Tree) (s : ℕ) (kind : ListKind) (to : Dest) → ((d : ℕ) → to ≡ State d → MayLead t s kind d)
    → LeadsWell t s kind to
dest_well t s kind (State d) f = f d refl
dest_well t s kind (Junction j) f = tt

list_at : (c : Chart) (s : ℕ) (kind : ListKind)
    → node_list (node_of_state c s) kind ≡ map arrow_of_trans (charts.node_list (node c s) kind)
list_at c s Outer = refl
list_at c s Inner = refl
list_at c s Default = refl

junction_at : (js : List (List Trans)) (j : ℕ)
    → (get_or (map node_of_junction js) j no_junction).list ≡ map arrow_of_trans (get_or js j [])
junction_at [] j = refl
junction_at (x ∷ xs) zero = refl
junction_at (x ∷ xs) (suc j) = junction_at xs j

history_true : (b : Bool) (at : Span) → cond b (Some nowhere) None ≡ Some at → b ≡ true
history_true true at e = refl
history_true false at e = absurd cc

module _ (c : Chart) where
  -- ---- look-ups

  node_at : (s : ℕ) → s < state_count c.tree → get_or (net_of_chart c).nodes s no_node ≡ node_of_state c s
  node_at s lt = get_or-map-range_with_len (node_of_state c) 0 (state_count c.tree) s s no_node lt (omega arith)

  pub words_same : (s : ℕ) → s < state_count c.tree → word_of (net_of_chart c) s ≡ comp_of c.tree s
  unfolding word_of
  words_same s lt = ap (λ x. x.word) (node_at s lt)

  history_same : (s : ℕ) → s < state_count c.tree
      → history_of (net_of_chart c) s ≡ cond (node c s).history (Some nowhere) None
  unfolding history_of
  history_same s lt = ap (λ x. x.history) (node_at s lt)

  pub lists_same : (s : ℕ) (kind : ListKind) → s < state_count c.tree
      → list_of (net_of_chart c) s kind ≡ map arrow_of_trans (charts.list_of c s kind)
  unfolding list_of
  lists_same s kind lt = ap (λ x. node_list x kind) (node_at s lt) ∙ list_at c s kind

  junctions_same : (j : ℕ) → junction_list (net_of_chart c) j ≡ map arrow_of_trans (junction c j)
  unfolding junction_list junction
  junctions_same j = junction_at c.junctions j

  pub count_same : junction_count (net_of_chart c) ≡ charts.junction_count c
  unfolding junction_count charts.junction_count
  count_same = length-map c.junctions node_of_junction

  -- the transitions of the net come from those of the chart
  image : IsImage arrow_of_trans (chart_reached.links_of c) (links_of (net_of_chart c)) (state_count c.tree)
  image = record { dests = λ t. refl; each = junctions_same; count = count_same; lists = lists_same }

  -- ---- pairs

  pub pairs_back : (count : ℕ) → NetPairs (net_of_chart c) count → ChartPairs c count
  pairs_back count are = below_back image (state_count c.tree) count (omega arith) are

  pub pairs_on : (count : ℕ) → ChartPairs c count → NetPairs (net_of_chart c) count
  pairs_on count are = below_on image (state_count c.tree) count (omega arith) are

  -- ---- from the net to the chart

  pub few_pairs : IsValid (net_of_chart c) → (count : ℕ) → ChartPairs c count → count ≤ PAIR_LIMIT
  few_pairs v count are = v.pairs count (pairs_on count are)

  pub structure_of : IsTree c.tree → IsValid (net_of_chart c) → HasStructure c
  structure_of tree v = record {
    children = λ e. v.children ((tree.leaves 0 tree.some).0 e);
    no_default = λ s lt ne.
        map_empty arrow_of_trans (charts.list_of c s Default) (sym (lists_same s Default lt) ∙ v.no_default s lt ne);
    default =
        λ s lt e. closes_back (charts.list_of c s Default)
        (subst Closes (lists_same s Default lt) (v.default s lt e));
    junctions = λ s j lt r. closes_back (junction c j) (subst Closes (junctions_same j)
        (v.junctions s j lt (kind_reached_on image s Default j lt r)));
    history = λ s lt e. v.history s nowhere lt
        (history_same s lt ∙ ap (λ b. cond b (Some nowhere) None) e);
    leads = λ s kind list lt m. recursion_from_All (λ (t : Trans). LeadsWell c.tree s kind t.dest) list
        (λ k d in_. let t : Trans = get_or list k d in
        let at = into_map arrow_of_trans list k t (slice_get-get_or list k d in_) in
        dest_well c.tree s kind t.dest (λ x e. v.leads s kind (map arrow_of_trans list) (arrow_of_trans t) x lt
        (kind_meets_on image s kind list lt m) (record { has = (k, at); to = e })));
  }

  -- ---- from the chart to the net

  pub valid_net : IsTree c.tree → HasStructure c → ((count : ℕ) → ChartPairs c count → count ≤ PAIR_LIMIT)
      → IsValid (net_of_chart c)
  valid_net tree h few = record {
    words = words_same;
    children = λ e. h.children ((tree.leaves 0 tree.some).1 e);
    no_default = λ s lt ne. lists_same s Default lt ∙ ap (map arrow_of_trans) (h.no_default s lt ne);
    default =
        λ s lt e. subst Closes (sym (lists_same s Default lt))
        (closes_on (charts.list_of c s Default) (h.default s lt e));
    junctions = λ s j lt r. subst Closes (sym (junctions_same j)) (closes_on (junction c j) (h.junctions s j lt
        (kind_reached_back image s Default j lt r)));
    history = λ s at lt is. h.history s lt (history_true (node c s).history at (sym (history_same s lt) ∙ is));
    leads = λ s kind list a d lt m l.
        let b = kind_meets_back image s kind list lt m in
        let r = from_map arrow_of_trans b.own l.has.0 a (subst (λ x. slice_get x l.has.0 ≡ Some a) b.same l.has.1) in
        let all = All-from_recursion (λ (t : Trans). LeadsWell c.tree s kind t.dest) b.own
        (h.leads s kind b.own lt b.met) in
        let here = all l.has.0 r.item (slice_get_within b.own l.has.0 r.item r.is) in
        let e = get_or_from_slice_get b.own l.has.0 r.item r.item r.is in
        let to : r.item.dest ≡ State d = ap (λ (x : Arrow). x.to) r.same ∙ l.to in
        subst (LeadsWell c.tree s kind) (ap (λ (t : Trans). t.dest) e ∙ to) here;
    pairs = λ count are. few count (pairs_back count are);
  }
