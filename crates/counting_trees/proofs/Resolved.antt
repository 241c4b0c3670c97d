-- The resolved chart without counting.
use Rattle.std.proofs.Common.{◌≡◌, ◌≢◌, ◌<◌, List, [], ◌++◌, map, length, refl, sym, ap, ◌∙◌, subst, arith}
use Rattle.std.proofs.Common.{flat_map, None}
use Rattle.std.specs.Prelude.{slice_index_or}
use Rattle.std.proofs.lemmas.List.{get_or_past}
use Rattle.chart_tree.specs.Trees as trees
use Rattle.chart_tree.specs.Trees.{State, StateOf}
use Rattle.chart_places.specs.Placed.{placed_states, placed_junctions, placed_from}
use Rattle.chart_places.specs.Scopes.{scopes_of}
use Rattle.resolved_tree.specs.Resolved as resolved
use Rattle.resolved_tree.specs.Resolved.{Resolved}
use Rattle.resolved_tree.specs.Plain.{chart_of, plain_node, plain_list, plain_names}
use Rattle.checked_chart.specs.Chart.{node, junction}
use Rattle.checked_chart.specs.declared.parts.Dest.TheVariants.{Junction}
use Rattle.chart_types.specs.Types.{type_faults, inits_faults, state_faults, list_faults}
use Rattle.chart_scope.specs.Resolution.{IsResolved, AreVarsOf, resolved_states, resolved_junction, event_decl}
use Rattle.counting_rules.specs.Written.{write_out, CanBeWritten}
use Rattle.counting_trees.specs.Counters.{Counter, events_of}
use Rattle.counting_trees.specs.Counting.{all_of, counting, counting_list, IsReady}
use Rattle.counting_trees.specs.Numbers.{number_of, counters_for, way_for}
use Rattle.counting_trees.proofs.Lists.{no_first, no_rest, none_of}
use Rattle.counting_trees.proofs.Placed.{counted_all}
use Rattle.counting_trees.proofs.Scopes.{counting_states, same_scopes, same_tree, same_texts, same_junctions, same_vars}
use Rattle.counting_trees.proofs.Scopes.{same_events}
use Rattle.counting_trees.proofs.Faults.{faultless_without}
use Rattle.counting_trees.proofs.Nodes.{way_in, nodes_are, nodes_sized}
use Rattle.counting_trees.proofs.Types.{types_rest}
use Rattle.counting_trees.proofs.Junctions.{never_taken, end_in}

-- the resolved chart without counting
abbrev pub resolved_without : trees.Chart → Resolved → Resolved
resolved_without t r = record {
  tree = r.tree;
  names = r.names;
  inits = r.inits;
  states = resolved_states (scopes_of t) 0 (placed_states t.root);
  junctions = r.junctions;
}

-- there is a state
some_states : (x : State) → 0 < length (placed_from None 0 x)
some_states (StateOf p below) = omega arith

module _ (ks : List (List Counter)) (t : trees.Chart) (r : Resolved) (h : IsResolved (counting ks t) r) where
  -- its states are those with counting
  pub states_are : r.states ≡ resolved_states (scopes_of t) 0 (counted_all ks 0 (counting_list ks) (placed_states t.root))
  states_are = h.resolves.states ∙ (λ i. resolved_states (same_scopes ks t i) 0 (counting_states ks t i))

  pub junctions_are : r.junctions ≡ map (resolved_junction (scopes_of t)) (placed_junctions (placed_states t.root))
  junctions_are = h.resolves.junctions ∙ (λ i. map (resolved_junction (same_scopes ks t i)) (same_junctions ks t i))

  -- names are resolved without counting
  pub resolves_without : IsResolved t (resolved_without t r)
  resolves_without = record {
    faultless = faultless_without ks t h.faultless;
    resolves = record {
      tree = h.resolves.tree ∙ same_tree ks t;
      state_names = h.resolves.state_names ∙ same_texts ks t;
      vars = subst (λ (vs : List trees.Var). AreVarsOf vs r.names.vars) (same_vars ks t) h.resolves.vars;
      events = h.resolves.events ∙ ap (map event_decl) (same_events ks t);
      inits = h.resolves.inits ∙ ap (map (λ (v : trees.Var). v.init)) (same_vars ks t);
      states = refl;
      junctions = junctions_are;
    };
  }

  -- there are no faults of types
  pub types_without : type_faults r ≡ [] → type_faults (resolved_without t r) ≡ []
  unfolding type_faults
  types_without none =
      let inits = inits_faults r.names.vars r.inits in
      let states = flat_map (state_faults r.names) r.states in
      let junctions = flat_map (λ (j : resolved.Junction). list_faults r.names j.list) r.junctions in
      let before = no_first (inits ++ states) junctions none in
      none_of (none_of (no_first inits states before)
      (types_rest r.names (scopes_of t) ks 0 (counting_list ks) (placed_states t.root)
      (ap (flat_map (state_faults r.names)) (sym states_are) ∙ no_rest inits states before)))
      (no_rest (inits ++ states) junctions none)

  -- the chart is the one without counting, with its counters written out
  pub written_is : chart_of r ≡ write_out (chart_of (resolved_without t r)) (counters_for ks t) (way_for t)
  unfolding chart_of counters_for way_for node
  written_is = λ i. record {
    tree = r.tree;
    names = plain_names r;
    nodes =
        (ap (map plain_node) states_are
        ∙ nodes_are (scopes_of t) ks (all_of ks) (events_of (all_of ks)) (placed_states t.root)) i;
    junctions = map (λ (j : resolved.Junction). plain_list j.list) r.junctions;
  }

  module _ (ready : IsReady ks t) where
    -- the counters can be written out, where there are any
    pub can_be_written : all_of ks ≢ [] → CanBeWritten (chart_of (resolved_without t r)) (counters_for ks t) (way_for t)
    unfolding chart_of counters_for way_for junction placed_states
    can_be_written some =
        let next = ready.junction some in
        let sized = nodes_sized (scopes_of t) (placed_states t.root) in
        let one = some_states t.root in
        record {
          elsewhere = Junction (end_in (scopes_of t));
          never_taken =
              ap (λ (js : List resolved.Junction). slice_index_or
              (map (λ (j : resolved.Junction). plain_list j.list) js) (way_in (scopes_of t)) []) junctions_are
              ∙ never_taken t (faultless_without ks t h.faultless) next.0 next.1;
          some = omega (arith, sized, one);
          only_states = λ s le.
              ap (map (λ (k : Counter). number_of (scopes_of t) k.name))
              (get_or_past ks s [] (let most = ready.states in omega (arith, sized, most, le)));
        }
