-- The net of a resolved chart without its places is that of the chart for which it stands, where words are compositions.
use Rattle.std.proofs.Common.{◌≡◌, ℕ, ◌<◌, Bool, ◌||◌, cond, List, [], ◌∷◌, map, Option, Some, None, get_or}
use Rattle.std.proofs.Common.{is_some, option_map, refl, sym, ap, ap₂, ◌∙◌}
use Rattle.std.specs.List.{range_with_len}
use Rattle.std.proofs.lemmas.List.{length-map}
use Rattle.std.proofs.lemmas.List.FromFn.{fill_by_all}
use Rattle.token_grammar.specs.declared.token.Span.{Span}
use Rattle.active_config.specs.declared.comp.Comp.{Comp}
use Rattle.active_config.specs.Tree.{Tree, state_count, comp_of}
use Rattle.checked_chart.specs.declared.parts.Dest.{Dest}
use Rattle.checked_chart.specs.Chart as charts
use Rattle.resolved_tree.specs.declared.resolved.Ref.{Ref}
use Rattle.resolved_tree.specs.Resolved.{Guard, Trans, Junction, State, Resolved}
use Rattle.resolved_tree.specs.Plain.{plain_expr, plain_dest, plain_trans, plain_list, plain_node, chart_of}
use Rattle.resolved_tree.specs.Promise.{KeepsPromise}
use Rattle.chart_structure.specs.declared.net.Arrow.{Arrow}
use Rattle.chart_structure.specs.Net.{Node, JunctionNode, Net, nowhere, no_node, word_of}
use Rattle.chart_structure.specs.Charts.{arrow_of_trans, node_of_state, node_of_junction, net_of_chart}
use Rattle.chart_structure.specs.Erased.{erase, erase_node, erase_junction, erased}
use Rattle.chart_check.specs.Nets.{arrow_of, node_of, junction_node_of, net_of}
use Rattle.chart_structure.proofs.ErasedLemmas.{node_at as bare_at}
use Rattle.chart_check.proofs.NetLemmas.{state_at, net_node, word_is, chart_node}

-- ---- transitions

map_some : {X Y : Type 0} (f : X → Y) (o : Option X) → is_some o ≡ is_some (option_map f o)
map_some f None = refl
map_some f (Some x) = refl

abbrev arrow_with : Bool → Dest → Arrow
arrow_with held dest = record { at = nowhere; «open» = held; to = dest; to_at = nowhere }

arrow_same : (t : Trans) → erase (arrow_of t) ≡ arrow_of_trans (plain_trans t)
arrow_same t =
    ap₂ (λ a b. arrow_with (a || b) (plain_dest t.dest)) (map_some (λ (e : Ref). e.number) t.event)
    (map_some (λ (g : Guard). plain_expr g.expr) t.guard)

list_same : (ts : List Trans) → map erase (map arrow_of ts) ≡ map arrow_of_trans (plain_list ts)
list_same [] = refl
list_same (t ∷ ts) = ap₂ (λ x xs. x ∷ xs) (arrow_same t) (list_same ts)

-- ---- states

history_same : (o : Option Span) → option_map (λ _. nowhere) o ≡ cond (is_some o) (Some nowhere) None
history_same None = refl
history_same (Some at) = refl

abbrev node_with : Comp → Option Span → List Arrow → List Arrow → List Arrow → Node
node_with comp past out within start = record {
  name = nowhere;
  word = comp;
  history = past;
  outer = out;
  inner = within;
  default = start;
}

-- what a net without places has of a state
abbrev bare_node : Comp → charts.Node → Node
bare_node comp m =
    node_with comp (cond m.history (Some nowhere) None) (map arrow_of_trans m.outer) (map arrow_of_trans m.inner)
    (map arrow_of_trans m.default)

node_same : (x : State) → erase_node (node_of x) ≡ bare_node x.word (plain_node x)
node_same x =
    let w = x.word in
    let past = cond (is_some x.history) (Some nowhere) None in
    let outer = map arrow_of_trans (plain_list x.outer) in
    let inner = map arrow_of_trans (plain_list x.inner) in
    ap (λ h. node_with w h (map erase (map arrow_of x.outer)) (map erase (map arrow_of x.inner))
    (map erase (map arrow_of x.default))) (history_same x.history)
    ∙ ap (λ l. node_with w past l (map erase (map arrow_of x.inner)) (map erase (map arrow_of x.default)))
    (list_same x.outer)
    ∙ ap (λ l. node_with w past outer l (map erase (map arrow_of x.default))) (list_same x.inner)
    ∙ ap (λ l. node_with w past outer inner l) (list_same x.default)

-- ---- junctions

junctions_same : (js : List Junction) → map erase_junction (map junction_node_of js)
    ≡ map node_of_junction (map (λ (j : Junction). plain_list j.list) js)
junctions_same [] = refl
junctions_same (j ∷ js) =
    ap₂ (λ (l : List Arrow) (xs : List JunctionNode). record { name = nowhere; list = l } ∷ xs) (list_same j.list)
    (junctions_same js)

-- ---- the net

abbrev net_with : Tree → List Node → List JunctionNode → Net
net_with t ns js = record { tree = t; nodes = ns; junctions = js }

module _ (r : Resolved) (res : KeepsPromise r)
    (words : (s : ℕ) → s < state_count r.tree → word_of (net_of r) s ≡ comp_of r.tree s) where
  node_at : (s : ℕ) → s < state_count r.tree
      → get_or (map erase_node (net_of r).nodes) s no_node ≡ bare_node (comp_of r.tree s) (charts.node (chart_of r) s)
  node_at s lt =
      let x = state_at r res s lt in
      bare_at (net_of r).nodes s ∙ ap erase_node (net_node r res s x.0 x.1) ∙ node_same x.0
      ∙ ap₂ bare_node (sym (word_is r res s x.0 x.1) ∙ words s lt) (sym (chart_node r res s x.0 x.1))

  nodes_same : map erase_node (net_of r).nodes
      ≡ map (node_of_state (chart_of r)) (range_with_len 0 (state_count r.tree))
  unfolding net_of chart_of
  nodes_same =
      fill_by_all (node_of_state (chart_of r)) (map erase_node (map node_of r.states)) (state_count r.tree) no_node
      (length-map (map node_of r.states) erase_node ∙ length-map r.states node_of ∙ res.sized) node_at

  -- without its places the net is that of the chart
  pub net_same : erased (net_of r) ≡ net_of_chart (chart_of r)
  unfolding net_of chart_of
  net_same = ap₂ (net_with r.tree) nodes_same (junctions_same r.junctions)
