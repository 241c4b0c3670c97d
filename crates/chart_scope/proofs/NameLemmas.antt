-- The first of all faults of names.
use Rattle.std.proofs.Common.{◌≡◌, List, ◌++◌, Option, None, map, ap, sym, ◌∙◌}
use Rattle.flow_base.specs.Lists.{items_of}
use Rattle.active_config.specs.Tree.{Tree}
use Rattle.chart_tree.specs.declared.chart.ChartText.{ChartText}
use Rattle.chart_tree.specs.declared.chart.EventText.{EventText}
use Rattle.chart_tree.specs.declared.chart.VarText.{VarText}
use Rattle.chart_tree.specs.declared.first.FaultAt.{FaultAt}
use Rattle.chart_tree.specs.declared.name.NameText.{NameText}
use Rattle.chart_tree.specs.Trees.{Chart, Var}
use Rattle.chart_tree.specs.Views.{chart_of, var_of}
use Rattle.chart_places.specs.declared.states.PlacedState.{PlacedState}
use Rattle.chart_places.specs.declared.junctions.OwnedJunction.{OwnedJunction}
use Rattle.chart_places.specs.Placed.{Placed, Owned, placed_states, placed_tree, placed_junctions}
use Rattle.chart_places.specs.Scopes.{Scopes, JunctionName, scopes_of, junction_name}
use Rattle.chart_places.specs.Survey.{placed_of, owned_of}
use Rattle.resolved_tree.specs.Faults.{first_with, first_of}
use Rattle.resolved_tree.proofs.FirstLemmas.{first_with_both}
use Rattle.chart_scope.specs.Names.{name_faults, doubled_events, doubled_vars, doubled_states, doubled_junctions}
use Rattle.chart_scope.specs.Names.{used_in_states, used_in_junctions}
use Rattle.chart_scope.specs.Parts.{doubled_names}
use Rattle.chart_scope.proofs.FoundLemmas.{three_found}

-- ---- all faults

-- the first of the faults of four parts
four_found : (o a b d e : Option FaultAt) (xs bs ds es : List FaultAt) → a ≡ first_with o xs → b ≡ first_with a bs
    → d ≡ first_with b ds → e ≡ first_with d es → e ≡ first_with o (xs ++ bs ++ ds ++ es)
four_found o a b d e xs bs ds es ea eb ed ee =
    let e3 = first_with_both o (xs ++ bs ++ ds) es in
    let e4 = first_with_both o (xs ++ bs) ds in
    let e5 = first_with_both o xs bs in
    cc

-- the faults of a chart part by part are all of them
all_found : (c : Chart) (p : Scopes) (e f g : Option FaultAt) → p ≡ scopes_of c → e ≡ first_with None (doubled_names p)
    → f ≡ first_with e (used_in_states p 0 (placed_states c.root))
    → g ≡ first_with f (used_in_junctions p (placed_junctions (placed_states c.root)))
    → g ≡ first_of (name_faults c)
unfolding name_faults first_of
all_found c p e f g is ee ef eg = rw (← is) (three_found None e f g (doubled_names p) _ _ ee ef eg)

-- ---- what a chart of the code declares

module _ (c : ChartText) (p : Scopes) (is : p ≡ scopes_of (chart_of c)) where
  pub tree-seen : (t : Tree) → t ≡ placed_tree (placed_states (chart_of c).root) → t ≡ p.tree
  unfolding scopes_of
  tree-seen t e = e ∙ sym (ap (λ (q : Scopes). q.tree) is)

  events-seen : (es : List EventText) → es ≡ items_of c.events → map (λ (e : EventText). e.name) es ≡ p.events
  unfolding scopes_of
  events-seen es e = ap (map (λ (e : EventText). e.name)) e ∙ sym (ap (λ (q : Scopes). q.events) is)

  vars-seen : (vs : List VarText) → vs ≡ items_of c.vars → map (λ (v : Var). v.name) (map var_of vs) ≡ p.vars
  unfolding scopes_of
  vars-seen vs e =
      ap (λ (vs : List VarText). map (λ (v : Var). v.name) (map var_of vs)) e ∙ sym (ap (λ (q : Scopes). q.vars) is)

  states-seen : (xs : List PlacedState) → map placed_of xs ≡ placed_states (chart_of c).root
      → map (λ (x : Placed). x.parts.name) (map placed_of xs) ≡ p.states
  unfolding scopes_of
  states-seen xs e = ap (map (λ (x : Placed). x.parts.name)) e ∙ sym (ap (λ (q : Scopes). q.states) is)

  junctions-seen : (js : List OwnedJunction) → map owned_of js ≡ placed_junctions (placed_states (chart_of c).root)
      → map junction_name (map owned_of js) ≡ p.junctions
  unfolding scopes_of
  junctions-seen js e = ap (map junction_name) e ∙ sym (ap (λ (q : Scopes). q.junctions) is)

  -- the first fault of names that stand twice, part by part
  pub twice_found : (es : List EventText) (vs : List VarText) (xs : List PlacedState) (js : List OwnedJunction)
      (a b d e : Option FaultAt) → es ≡ items_of c.events → vs ≡ items_of c.vars
      → map placed_of xs ≡ placed_states (chart_of c).root
      → map owned_of js ≡ placed_junctions (placed_states (chart_of c).root)
      → a ≡ first_with None (doubled_events p 0 (map (λ (e : EventText). e.name) es))
      → b ≡ first_with a (doubled_vars p 0 (map (λ (v : Var). v.name) (map var_of vs)))
      → d ≡ first_with b (doubled_states p 0 (map (λ (x : Placed). x.parts.name) (map placed_of xs)))
      → e ≡ first_with d (doubled_junctions p 0 (map junction_name (map owned_of js)))
      → e ≡ first_with None (doubled_names p)
  twice_found es vs xs js a b d e are_es are_vs are_xs are_js ea eb ed ee =
      four_found None a b d e (doubled_events p 0 p.events) (doubled_vars p 0 p.vars) (doubled_states p 0 p.states)
      (doubled_junctions p 0 p.junctions)
      (ea ∙ ap (λ (ns : List NameText). first_with None (doubled_events p 0 ns)) (events-seen es are_es))
      (eb ∙ ap (λ (ns : List NameText). first_with a (doubled_vars p 0 ns)) (vars-seen vs are_vs))
      (ed ∙ ap (λ (ns : List NameText). first_with b (doubled_states p 0 ns)) (states-seen xs are_xs))
      (ee ∙ ap (λ (ns : List JunctionName). first_with d (doubled_junctions p 0 ns)) (junctions-seen js are_js))

  -- the first fault of all, part by part
  pub chart_found : (xs : List PlacedState) (js : List OwnedJunction) (e f g : Option FaultAt)
      → map placed_of xs ≡ placed_states (chart_of c).root
      → map owned_of js ≡ placed_junctions (placed_states (chart_of c).root)
      → e ≡ first_with None (doubled_names p)
      → f ≡ first_with e (used_in_states p 0 (map placed_of xs))
      → g ≡ first_with f (used_in_junctions p (map owned_of js))
      → g ≡ first_of (name_faults (chart_of c))
  chart_found xs js e f g are_xs are_js ee ef eg =
      all_found (chart_of c) p e f g is ee
      (ef ∙ ap (λ (ps : List Placed). first_with e (used_in_states p 0 ps)) are_xs)
      (eg ∙ ap (λ (os : List Owned). first_with f (used_in_junctions p os)) are_js)
