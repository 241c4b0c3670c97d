-- What a resolved chart and a checked chart make is a net.
use Rattle.std.proofs.Common.{◌≡◌, ℕ, zero, suc, ◌<◌, List, [], ◌∷◌, length, map, get_or, Some}
use Rattle.std.proofs.Common.{refl, ap, ◌∙◌, subst, arith}
use Rattle.std.specs.Prelude.{slice_get}
use Rattle.std.specs.List.{AllByRecursion}
use Rattle.std.proofs.lemmas.List.{length-map}
use Rattle.active_config.specs.Tree.{Tree}
use Rattle.checked_chart.specs.declared.parts.ListKind.{ListKind}
use Rattle.checked_chart.specs.declared.parts.ListKind.TheVariants.{Outer, Inner, Default}
use Rattle.chart_structure.specs.declared.net.Arrow.{Arrow}
use Rattle.chart_structure.specs.declared.net.Node as code_node
use Rattle.chart_structure.specs.declared.net.JunctionNode as code_junction
use Rattle.chart_structure.specs.Net as nets
use Rattle.chart_structure.specs.Net.{Net, Node, JunctionNode, Has, IsNet, no_node, no_junction, node_list, word_of}
use Rattle.chart_structure.specs.Net.{list_of, junction_list, junction_count}
use Rattle.chart_structure.specs.Views as views
use Rattle.resolved_tree.specs.declared.resolved.ResolvedDest.{ResolvedDest}
use Rattle.resolved_tree.specs.declared.resolved.ResolvedDest.TheVariants as to
use Rattle.resolved_tree.specs.Resolved.{Trans, Junction, State, Resolved}
use Rattle.resolved_tree.specs.Plain.{plain_dest}
use Rattle.resolved_tree.specs.Promise.{KeepsPromise, IsDest, IsTrans, AreTrans, IsStateOf}
use Rattle.chart_check.specs.Nets.{arrow_of, node_of, junction_node_of, net_of}

-- parts whose views are those of a net make that net
abbrev net_with : Tree → List Node → List JunctionNode → Net
net_with t ns js = record { tree = t; nodes = ns; junctions = js }

pub net_made : (n : Net) (t : Tree) (ns : List code_node.Node) (js : List code_junction.JunctionNode) → t ≡ n.tree
    → map views.node_of ns ≡ n.nodes → map views.junction_of js ≡ n.junctions → views.net_of t ns js ≡ n
unfolding views.net_of
net_made n t ns js tree nodes junctions =
    ap (λ x. net_with x (map views.node_of ns) (map views.junction_of js)) tree
    ∙ ap (λ x. net_with n.tree x (map views.junction_of js)) nodes
    ∙ ap (net_with n.tree n.nodes) junctions

-- transitions of a list lead where each that stands in it does
pub dests_of : {T : Type 0} (arrow : T → Arrow) (Good : T → Type 0) (n : Net)
    → ((t : T) → Good t → nets.IsDest n (arrow t).to)
    → (ts : List T) → AllByRecursion Good ts → (a : Arrow) → Has (map arrow ts) a → nets.IsDest n a.to
dests_of arrow Good n each [] all a (i, e) = absurd cc
dests_of arrow Good n each (t ∷ ts) all a (zero, e) =
    let same : arrow t ≡ a = cc in subst (λ (x : Arrow). nets.IsDest n x.to) same (each t all.0)
dests_of arrow Good n each (t ∷ ts) all a (suc i, e) = dests_of arrow Good n each ts all.1 a (i, e)

module _ (r : Resolved) where
  dest_there : (d : ResolvedDest) → IsDest r d → nets.IsDest (net_of r) (plain_dest d)
  unfolding net_of junction_count
  dest_there (to.State s) h = h
  dest_there (to.Junction j) h = omega (arith, length-map r.junctions junction_node_of)

  list_dests : (ts : List Trans) → AreTrans r ts → (a : Arrow) → Has (map arrow_of ts) a → nets.IsDest (net_of r) a.to
  list_dests = dests_of arrow_of (IsTrans r) (net_of r) (λ t h. dest_there t.dest h.dest)

  node_dests : (s : State) (kind : ListKind) → IsStateOf r s → (a : Arrow) → Has (node_list (node_of s) kind) a
      → nets.IsDest (net_of r) a.to
  node_dests s Outer h = list_dests s.outer h.outer
  node_dests s Inner h = list_dests s.inner h.inner
  node_dests s Default h = list_dests s.default h.default

  nothing_leads : (kind : ListKind) (a : Arrow) → Has (node_list no_node kind) a → ⊥
  nothing_leads Outer a h = cc h.1
  nothing_leads Inner a h = cc h.1
  nothing_leads Default a h = cc h.1

  states_dests : (ss : List State) → AllByRecursion (IsStateOf r) ss → (s : ℕ) (kind : ListKind) (a : Arrow)
      → Has (node_list (get_or (map node_of ss) s no_node) kind) a → nets.IsDest (net_of r) a.to
  states_dests [] all s kind a h = absurd (nothing_leads kind a h)
  states_dests (x ∷ ss) all zero kind a h = node_dests x kind all.0 a h
  states_dests (x ∷ ss) all (suc s) kind a h = states_dests ss all.1 s kind a h

  junctions_dests : (js : List Junction) → AllByRecursion (λ (j : Junction). AreTrans r j.list) js → (j : ℕ) (a : Arrow)
      → Has (get_or (map junction_node_of js) j no_junction).list a → nets.IsDest (net_of r) a.to
  junctions_dests [] all j a h = absurd (cc h.1)
  junctions_dests (x ∷ js) all zero a h = list_dests x.list all.0 a h
  junctions_dests (x ∷ js) all (suc j) a h = junctions_dests js all.1 j a h

  root_outer : (ss : List State) → ((x : State) → slice_get ss 0 ≡ Some x → x.outer ≡ [])
      → node_list (get_or (map node_of ss) 0 no_node) Outer ≡ []
  root_outer [] h = refl
  root_outer (x ∷ ss) h = ap (map arrow_of) (h x refl)

  -- the state at a number, and its word
  record IsStateAt (ss : List State) (s : ℕ) : Type 0 where
    state : State
    is : slice_get ss s ≡ Some state
    word : (get_or (map node_of ss) s no_node).word ≡ state.word

  state_at : (ss : List State) (s : ℕ) → s < length ss → IsStateAt ss s
  state_at [] s lt = absurd (omega arith)
  state_at (x ∷ ss) zero lt = record { state = x; is = refl; word = refl }
  state_at (x ∷ ss) (suc s) lt =
      let at = state_at ss s (omega arith) in record { state = at.state; is = at.is; word = at.word }

  pub is_net : KeepsPromise r → IsNet (net_of r)
  unfolding net_of list_of junction_list word_of
  is_net h = record {
    tree = h.tree;
    nodes = length-map r.states node_of ∙ h.sized;
    lists = λ s kind a has. states_dests r.states h.states s kind a has;
    junctions = λ j a has. junctions_dests r.junctions h.junctions j a has;
    root = root_outer r.states (λ x e. (h.root x e).0);
    words = λ s lt some.
        let at = state_at r.states s (omega (arith, h.sized)) in at.word ∙ h.words s at.state at.is some;
  }
