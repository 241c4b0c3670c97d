-- What the parts of a net are in its view.
use Rattle.std.proofs.Common.{subst, ◌≡◌, ℕ, ◌<◌, List, length, get_or, sym, ap, ◌∙◌, arith}
use Rattle.std.proofs.lemmas.List.{get_or-map, length-map}
use Rattle.active_config.specs.Tree.{Tree, IsTree, state_count}
use Rattle.checked_chart.specs.declared.parts.ListKind.{ListKind}
use Rattle.chart_structure.specs.declared.net.Arrow.{Arrow}
use Rattle.chart_structure.specs.declared.net.Node as code_node
use Rattle.chart_structure.specs.declared.net.JunctionNode as code_junction
use Rattle.chart_structure.specs.Net.{Net, IsNet, no_node, no_junction, node_list, word_of, name_of, history_of}
use Rattle.chart_structure.specs.Net.{list_of}
use Rattle.chart_structure.specs.Net.{junction_count, junction_list, junction_name, Has, IsDest}
use Rattle.chart_structure.specs.Views.{node_of, junction_of, net_of}

module _ (t : Tree) (ns : List code_node.Node) (js : List code_junction.JunctionNode) (n : Net)
    (e : net_of t ns js ≡ n) where
  pub tree_is : t ≡ n.tree
  unfolding net_of
  tree_is = ap (λ (m : Net). m.tree) e

  pub tree_valid : IsNet (net_of t ns js) → IsTree t
  unfolding net_of
  tree_valid h = h.tree

  pub is_net : IsNet (net_of t ns js) → IsNet n
  is_net h = subst IsNet e h

  -- ---- states

  pub node_within : (s : ℕ) → IsNet (net_of t ns js) → s < state_count n.tree → s < length ns
  unfolding net_of
  node_within s net lt =
      let here : length ns ≡ state_count t = sym (length-map ns node_of) ∙ net.nodes in
      let same = ap (λ (m : Net). state_count m.tree) e in
      omega arith

  node_is : (s : ℕ) (x : code_node.Node) → s < length ns → x ≡ get_or ns s x → get_or n.nodes s no_node ≡ node_of x
  unfolding net_of
  node_is s x lt is =
      ap (λ (m : Net). get_or m.nodes s no_node) (sym e) ∙ get_or-map node_of ns s x no_node lt ∙ ap node_of (sym is)

  pub word_is : (s : ℕ) (x : code_node.Node) → s < length ns → x ≡ get_or ns s x → x.word ≡ word_of n s
  unfolding word_of
  word_is s x lt is = sym (ap (λ m. m.word) (node_is s x lt is))

  pub name_is : (s : ℕ) (x : code_node.Node) → s < length ns → x ≡ get_or ns s x → x.name ≡ name_of n s
  unfolding name_of
  name_is s x lt is = sym (ap (λ m. m.name) (node_is s x lt is))

  pub history_is : (s : ℕ) (x : code_node.Node) → s < length ns → x ≡ get_or ns s x → x.history ≡ history_of n s
  unfolding history_of
  history_is s x lt is = sym (ap (λ m. m.history) (node_is s x lt is))

  pub list_is : (s : ℕ) (kind : ListKind) (x : code_node.Node) → s < length ns → x ≡ get_or ns s x
      → node_list (node_of x) kind ≡ list_of n s kind
  unfolding list_of
  list_is s kind x lt is = sym (ap (λ m. node_list m kind) (node_is s x lt is))

  -- transitions of a list lead to what is there
  pub list_dests : IsNet (net_of t ns js) → (s : ℕ) (kind : ListKind) (list : List Arrow) → list ≡ list_of n s kind
      → (a : Arrow) → Has list a → IsDest n a.to
  list_dests h s kind list f a has = (is_net h).lists s kind a (subst (λ l. Has l a) f has)

  -- ---- junctions

  pub junctions_are : length js ≡ junction_count n
  unfolding net_of junction_count
  junctions_are = sym (length-map js junction_of) ∙ ap (λ (m : Net). length m.junctions) e

  junction_is : (j : ℕ) (x : code_junction.JunctionNode) → j < length js → x ≡ get_or js j x
      → get_or n.junctions j no_junction ≡ junction_of x
  unfolding net_of
  junction_is j x lt is =
      ap (λ (m : Net). get_or m.junctions j no_junction) (sym e)
      ∙ get_or-map junction_of js j x no_junction lt ∙ ap junction_of (sym is)

  pub junction_list_is : (j : ℕ) (x : code_junction.JunctionNode) → j < length js → x ≡ get_or js j x
      → x.list.items ≡ junction_list n j
  unfolding junction_list
  junction_list_is j x lt is = sym (ap (λ m. m.list) (junction_is j x lt is))

  pub junction_name_is : (j : ℕ) (x : code_junction.JunctionNode) → j < length js → x ≡ get_or js j x
      → x.name ≡ junction_name n j
  unfolding junction_name
  junction_name_is j x lt is = sym (ap (λ m. m.name) (junction_is j x lt is))

  pub junction_dests : IsNet (net_of t ns js) → (j : ℕ) (list : List Arrow) → list ≡ junction_list n j
      → (a : Arrow) → Has list a → IsDest n a.to
  junction_dests h j list f a has = (is_net h).junctions j a (subst (λ l. Has l a) f has)
