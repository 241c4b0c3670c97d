-- The net of a resolved chart is a net, and the look-ups of a resolved chart.
use Rattle.std.proofs.Common.{◌≡◌, ◌≢◌, ℕ, zero, suc, ◌<◌, List, [], ◌∷◌, length, map, Some, get_or, slice_get}
use Rattle.std.proofs.Common.{sym, ap, ◌∙◌, subst}
use Rattle.std.specs.List.{AllByRecursion}
use Rattle.std.proofs.lemmas.List.{length-map}
use Rattle.std.proofs.lemmas.Option.{get_or_from_slice_get}
use Rattle.active_config.specs.Tree.{state_count, comp_of, children_of}
use Rattle.checked_chart.specs.declared.parts.Dest.{Dest}
use Rattle.checked_chart.specs.declared.parts.ListKind.{ListKind}
use Rattle.checked_chart.specs.declared.parts.ListKind.TheVariants.{Outer, Inner, Default}
use Rattle.checked_chart.specs.Chart as charts
use Rattle.resolved_tree.specs.declared.resolved.ResolvedDest.{ResolvedDest}
use Rattle.resolved_tree.specs.declared.resolved.ResolvedDest.TheVariants as to
use Rattle.resolved_tree.specs.Resolved.{Trans, Junction, State, Resolved}
use Rattle.resolved_tree.specs.Plain.{plain_dest, plain_node, chart_of}
use Rattle.resolved_tree.specs.Promise.{IsDest, IsTrans, AreTrans, IsStateOf, KeepsPromise}
use Rattle.chart_structure.specs.declared.net.Arrow.{Arrow}
use Rattle.chart_structure.specs.Net as nets
use Rattle.chart_structure.specs.Net.{IsNet, Has, no_node, no_junction, node_list, word_of, list_of, junction_count}
use Rattle.chart_structure.specs.Net.{junction_list}
use Rattle.chart_structure.proofs.MapLemmas.{from_map, into_map}
use Rattle.chart_check.specs.Nets.{arrow_of, node_of, junction_node_of, net_of}
use Rattle.chart_check.proofs.ListLemmas.{there, one_of}

module _ (r : Resolved) (res : KeepsPromise r) where
  -- ---- look-ups

  -- the state of a number
  pub state_at : (s : ℕ) → s < state_count r.tree → (x : State) × (slice_get r.states s ≡ Some x)
  state_at s lt = there r.states s (subst (λ n. s < n) (sym res.sized) lt)

  pub net_node : (s : ℕ) (x : State) → slice_get r.states s ≡ Some x → get_or (net_of r).nodes s no_node ≡ node_of x
  unfolding net_of
  net_node s x is =
      get_or_from_slice_get (map node_of r.states) s (node_of x) no_node (into_map node_of r.states s x is)

  pub word_is : (s : ℕ) (x : State) → slice_get r.states s ≡ Some x → word_of (net_of r) s ≡ x.word
  unfolding word_of
  word_is s x is = ap (λ m. m.word) (net_node s x is)

  pub chart_node : (s : ℕ) (x : State) → slice_get r.states s ≡ Some x
      → charts.node (chart_of r) s ≡ plain_node x
  unfolding chart_of charts.node
  chart_node s x is =
      get_or_from_slice_get (map plain_node r.states) s (plain_node x) charts.no_node
      (into_map plain_node r.states s x is)

  -- ---- destinations

  count_is : junction_count (net_of r) ≡ length r.junctions
  unfolding net_of junction_count
  count_is = length-map r.junctions junction_node_of

  dest_there : (d : ResolvedDest) → IsDest r d → nets.IsDest (net_of r) (plain_dest d)
  unfolding net_of
  dest_there (to.State s) h = h
  dest_there (to.Junction j) h = subst (λ n. j.number < n) (sym count_is) h

  list_there : (ts : List Trans) → AreTrans r ts → (a : Arrow) → Has (map arrow_of ts) a → nets.IsDest (net_of r) a.to
  list_there ts all a h =
      let t = from_map arrow_of ts h.0 a h.1 in
      let own = one_of (IsTrans r) ts h.0 t.item all t.is in
      subst (λ (d : Dest). nets.IsDest (net_of r) d) (ap (λ (x : Arrow). x.to) t.same)
      (dest_there t.item.dest own.dest)

  states_there : (xs : List State) → AllByRecursion (IsStateOf r) xs → (s : ℕ) (kind : ListKind) (a : Arrow)
      → Has (node_list (get_or (map node_of xs) s no_node) kind) a → nets.IsDest (net_of r) a.to
  states_there [] all s Outer a h = absurd (let e = h.1 in cc)
  states_there [] all s Inner a h = absurd (let e = h.1 in cc)
  states_there [] all s Default a h = absurd (let e = h.1 in cc)
  states_there (x ∷ xs) all zero Outer a h = list_there x.outer all.0.outer a h
  states_there (x ∷ xs) all zero Inner a h = list_there x.inner all.0.inner a h
  states_there (x ∷ xs) all zero Default a h = list_there x.default all.0.default a h
  states_there (x ∷ xs) all (suc s) kind a h = states_there xs all.1 s kind a h

  junctions_there : (js : List Junction) → AllByRecursion (λ (j : Junction). AreTrans r j.list) js → (j : ℕ) (a : Arrow)
      → Has (get_or (map junction_node_of js) j no_junction).list a → nets.IsDest (net_of r) a.to
  junctions_there [] all j a h = absurd (let e = h.1 in cc)
  junctions_there (x ∷ xs) all zero a h = list_there x.list all.0 a h
  junctions_there (x ∷ xs) all (suc j) a h = junctions_there xs all.1 j a h

  lists_there : (s : ℕ) (kind : ListKind) (a : Arrow) → Has (list_of (net_of r) s kind) a
      → nets.IsDest (net_of r) a.to
  unfolding net_of list_of
  lists_there s kind a h = states_there r.states res.states s kind a h

  ends_there : (j : ℕ) (a : Arrow) → Has (junction_list (net_of r) j) a → nets.IsDest (net_of r) a.to
  unfolding net_of junction_list
  ends_there j a h = junctions_there r.junctions res.junctions j a h

  -- ---- the net

  no_outer : list_of (net_of r) 0 Outer ≡ []
  unfolding list_of
  no_outer =
      let x = state_at 0 res.tree.some in
      ap (λ m. node_list m Outer) (net_node 0 x.0 x.1) ∙ ap (map arrow_of) (res.root x.0 x.1).0

  words_are : (s : ℕ) → s < state_count r.tree → children_of r.tree s ≢ [] → word_of (net_of r) s ≡ comp_of r.tree s
  words_are s lt some = let x = state_at s lt in word_is s x.0 x.1 ∙ res.words s x.0 x.1 some

  -- the net of a resolved chart is a net
  pub is_net : IsNet (net_of r)
  unfolding net_of
  is_net = record {
    tree = res.tree;
    nodes = length-map r.states node_of ∙ res.sized;
    lists = lists_there;
    junctions = ends_there;
    root = no_outer;
    words = words_are;
  }
