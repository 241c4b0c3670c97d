-- Names mean the same with and without counting.
use Rattle.std.proofs.Common.{◌≡◌, List, [], map, None, refl, ap, ◌∙◌}
use Rattle.chart_tree.specs.declared.chart.EventText.{EventText}
use Rattle.chart_tree.specs.Trees.{Var, Trans, Chart}
use Rattle.chart_places.specs.Placed.{Placed, placed_states, placed_comp, placed_tree, in_text_order, placed_junctions}
use Rattle.chart_places.specs.Scopes.{junction_name, scopes_of}
use Rattle.counting_trees.specs.Counters.{Counter}
use Rattle.counting_trees.specs.Counting.{counting, counting_list}
use Rattle.counting_trees.proofs.Placed.{counted_all, counted-map, counted-owned, state_placed}

module _ (ks : List (List Counter)) (first : List Trans) (xs : List Placed) where
  tree_kept : placed_tree (counted_all ks 0 first xs) ≡ placed_tree xs
  unfolding placed_tree
  tree_kept = λ i. record {
    parents = counted-map ks (λ (p : Placed). p.parent) (λ r f x. refl) 0 first xs i;
    comps = counted-map ks placed_comp (λ r f x. refl) 0 first xs i;
  }

  names_kept : map (λ (p : Placed). p.parts.name) (counted_all ks 0 first xs) ≡ map (λ (p : Placed). p.parts.name) xs
  names_kept = counted-map ks (λ (p : Placed). p.parts.name) (λ r f x. refl) 0 first xs

  texts_kept : map (λ (p : Placed). p.parts.name.text) (counted_all ks 0 first xs)
      ≡ map (λ (p : Placed). p.parts.name.text) xs
  texts_kept = counted-map ks (λ (p : Placed). p.parts.name.text) (λ r f x. refl) 0 first xs

  junctions_kept : placed_junctions (counted_all ks 0 first xs) ≡ placed_junctions xs
  unfolding placed_junctions
  junctions_kept = ap (in_text_order []) (counted-owned ks 0 0 first xs)

module _ (ks : List (List Counter)) (t : Chart) where
  -- the states of the chart text in which counters count
  pub counting_states : placed_states (counting ks t).root ≡ counted_all ks 0 (counting_list ks) (placed_states t.root)
  unfolding placed_states counting
  counting_states = state_placed ks None 0 (counting_list ks) t.root

  pub same_tree : placed_tree (placed_states (counting ks t).root) ≡ placed_tree (placed_states t.root)
  same_tree = ap placed_tree counting_states ∙ tree_kept ks (counting_list ks) (placed_states t.root)

  pub same_texts : map (λ (p : Placed). p.parts.name.text) (placed_states (counting ks t).root)
      ≡ map (λ (p : Placed). p.parts.name.text) (placed_states t.root)
  same_texts =
      ap (map (λ (p : Placed). p.parts.name.text)) counting_states
      ∙ texts_kept ks (counting_list ks) (placed_states t.root)

  pub same_junctions : placed_junctions (placed_states (counting ks t).root) ≡ placed_junctions (placed_states t.root)
  same_junctions = ap placed_junctions counting_states ∙ junctions_kept ks (counting_list ks) (placed_states t.root)

  pub same_vars : (counting ks t).vars ≡ t.vars
  unfolding counting
  same_vars = refl

  pub same_events : (counting ks t).events ≡ t.events
  unfolding counting
  same_events = refl

  pub same_scopes : scopes_of (counting ks t) ≡ scopes_of t
  unfolding scopes_of
  same_scopes = λ i. record {
    tree = same_tree i;
    states =
        (ap (map (λ (p : Placed). p.parts.name)) counting_states
        ∙ names_kept ks (counting_list ks) (placed_states t.root)) i;
    junctions = map junction_name (same_junctions i);
    events = map (λ (e : EventText). e.name) (same_events i);
    vars = map (λ (v : Var). v.name) (same_vars i);
  }
