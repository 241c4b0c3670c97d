-- A resolved chart without faults stands for a valid chart.
use Rattle.std.proofs.Common.{◌≡◌, ℕ, ◌<◌, [], ◌++◌, flat_map, ap, ◌∙◌, subst}
use Rattle.std.proofs.lemmas.List.{length-map}
use Rattle.active_config.specs.Tree.{IsTree, state_count, comp_of}
use Rattle.chart_tree.specs.declared.first.FaultAt.{FaultAt}
use Rattle.checked_chart.specs.Chart as charts
use Rattle.checked_chart.specs.Counts.{IsWithinLimits}
use Rattle.checked_chart.specs.Valid as valid
use Rattle.resolved_tree.specs.Resolved.{Junction, Resolved}
use Rattle.resolved_tree.specs.Plain.{plain_block, plain_list, plain_node, chart_of}
use Rattle.resolved_tree.specs.Promise.{KeepsPromise}
use Rattle.chart_structure.specs.Charts.{net_of_chart}
use Rattle.chart_structure.specs.Erased.{erased}
use Rattle.chart_structure.specs.Net.{word_of}
use Rattle.chart_structure.specs.Structure.{StructureFault, PairFault}
use Rattle.chart_structure.specs.Valid as nets
use Rattle.chart_structure.proofs.ValidLemmas.{valid_where}
use Rattle.chart_structure.proofs.ErasedLemmas.{erased_valid}
use Rattle.chart_structure.proofs.ChartLemmas.{structure_of, few_pairs}
use Rattle.chart_types.specs.Types.{inits_faults, state_faults, list_faults, type_faults}
use Rattle.chart_check.specs.Nets.{net_of}
use Rattle.chart_check.proofs.ListLemmas.{neither}
use Rattle.chart_check.proofs.DeclLemmas.{has_names, has_flags, has_inits}
use Rattle.chart_check.proofs.TypeLemmas.{states_valid, junctions_valid}
use Rattle.chart_check.proofs.NetLemmas.{state_at, chart_node, is_net}
use Rattle.chart_check.proofs.ErasedLemmas.{net_same}

module _ (r : Resolved) (res : KeepsPromise r) where
  -- ---- structure

  words_are : nets.IsValid (net_of r) → (s : ℕ) → s < state_count r.tree → word_of (net_of r) s ≡ comp_of r.tree s
  unfolding net_of
  words_are v = v.words

  -- a net without faults is valid
  pub sound_net : ((f : FaultAt) → StructureFault (net_of r) f → ⊥) → ((f : FaultAt) → PairFault (net_of r) f → ⊥)
      → nets.IsValid (net_of r)
  sound_net = valid_where (net_of r) (is_net r res)

  -- a valid net without its places is that of the chart
  pub bare_net : nets.IsValid (net_of r) → erased (net_of r) ≡ net_of_chart (chart_of r)
  bare_net v = net_same r res (words_are v)

  net_valid : ((f : FaultAt) → StructureFault (net_of r) f → ⊥) → ((f : FaultAt) → PairFault (net_of r) f → ⊥)
      → nets.IsValid (net_of_chart (chart_of r))
  net_valid sound few =
      let v = sound_net sound few in
      subst nets.IsValid (bare_net v) (erased_valid (net_of r) v)

  -- ---- the chart

  within_limits : nets.IsValid (net_of_chart (chart_of r)) → IsWithinLimits (chart_of r)
  within_limits v = record {
    states = res.small.states;
    depth = res.small.depth;
    junctions = res.small.junctions;
    transitions = res.small.transitions;
    pairs = few_pairs (chart_of r) v;
    vars = res.small.vars;
    events = res.small.events;
    items = res.small.items;
  }

  root_list : (charts.node (chart_of r) 0).outer ≡ []
  root_list =
      let x = state_at r res 0 res.tree.some in
      ap (λ (m : charts.Node). m.outer) (chart_node r res 0 x.0 x.1) ∙ ap plain_list (res.root x.0 x.1).0

  root_exit : (charts.node (chart_of r) 0).exit ≡ []
  root_exit =
      let x = state_at r res 0 res.tree.some in
      ap (λ (m : charts.Node). m.exit) (chart_node r res 0 x.0 x.1) ∙ ap plain_block (res.root x.0 x.1).1

  -- the faults of types, by the parts of the chart
  record NoTypeFaults : Type 0 where
    inits : inits_faults r.names.vars r.inits ≡ []
    states : flat_map (state_faults r.names) r.states ≡ []
    junctions : flat_map (λ (j : Junction). list_faults r.names j.list) r.junctions ≡ []

  no_faults : type_faults r ≡ [] → NoTypeFaults
  unfolding type_faults
  no_faults none =
      let inits = inits_faults r.names.vars r.inits in
      let states = flat_map (state_faults r.names) r.states in
      let junctions = flat_map (λ (j : Junction). list_faults r.names j.list) r.junctions in
      let parts = neither (inits ++ states) junctions none in
      let first = neither inits states parts.0 in
      record { inits = first.0; states = first.1; junctions = parts.1 }

  valid_by : NoTypeFaults → valid.HasStructure (chart_of r)
      → IsWithinLimits (chart_of r) → (charts.node (chart_of r) 0).outer ≡ [] → (charts.node (chart_of r) 0).exit ≡ []
      → valid.IsValid (chart_of r)
  unfolding chart_of
  valid_by none structure limits outer exit = record {
    tree = res.tree;
    state_names = res.state_names;
    nodes_sized = length-map r.states plain_node ∙ res.sized;
    names = has_names r res.names;
    inits = has_inits r res.inits_sized none.inits;
    flags = has_flags r res.flags;
    root_outer = outer;
    root_exit = exit;
    nodes = states_valid r res none.states;
    junctions = junctions_valid r res none.junctions;
    structure = structure;
    limits = limits;
  }

  tree_valid : IsTree (chart_of r).tree
  unfolding chart_of
  tree_valid = res.tree

  pub chart_valid : type_faults r ≡ [] → ((f : FaultAt) → StructureFault (net_of r) f → ⊥)
      → ((f : FaultAt) → PairFault (net_of r) f → ⊥) → valid.IsValid (chart_of r)
  chart_valid none sound few =
      let net = net_valid sound few in
      valid_by (no_faults none) (structure_of (chart_of r) tree_valid net) (within_limits net) root_list root_exit
