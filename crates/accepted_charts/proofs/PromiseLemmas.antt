-- What is made of the declarations of a chart text, and the sizes of its resolved chart.
use Rattle.std.proofs.Common.{◌≡◌, ◌≢◌, ℕ, suc, ◌+◌, ◌^◌, ◌≤◌, ◌<◌, List, [], ◌∷◌, ◌++◌, map, length, sum_by, Some}
use Rattle.std.proofs.Common.{true, refl, sym, ap, ap₂, ◌∙◌, subst, arith}
use Rattle.std.specs.Prelude.{◌&&◌, slice_get, slice_index_or}
use Rattle.std.specs.List.{AllByRecursion, list_all}
use Rattle.std.proofs.lemmas.List.{length-map}
use Rattle.std.proofs.lemmas.List.Folds.{list_all-append}
use Rattle.std.proofs.lemmas.Option.{slice_get_within}
use Rattle.flow_base.specs.Names.{are_distinct}
use Rattle.chart_lexer.specs.Words.{is_name}
use Rattle.active_config.specs.Tree.{Tree, IsTree, state_count, comp_of, children_of, ancestors}
use Rattle.actions.specs.declared.names.EventDecl.{EventDecl}
use Rattle.actions.specs.declared.names.Var.{Var}
use Rattle.chart_tree.specs.declared.chart.EventText.{EventText}
use Rattle.chart_tree.specs.declared.sort.InitText.{InitText}
use Rattle.chart_tree.specs.declared.sort.InitText.TheVariants as inits
use Rattle.chart_tree.specs.Trees as trees
use Rattle.chart_grammar.specs.Limits.{after_event, after_variable, usual}
use Rattle.canonical_text.specs.Sizes.{none, sizes, size_of_chart}
use Rattle.canonical_text.specs.Terms as terms
use Rattle.canonical_text.specs.Terms.{IsChart}
use Rattle.canonical_text.proofs.Counts.{AsMany}
use Rattle.checked_chart.specs.Chart as charts
use Rattle.checked_chart.specs.Chart.{junction_count}
use Rattle.checked_chart.specs.Counts.{trans_statements, node_transitions, node_statements}
use Rattle.checked_chart.specs.Valid.{HasNames, HasFlagMode, declared_names, state_name}
use Rattle.chart_places.specs.Placed.{Placed, Owned, placed_states, placed_tree, placed_junctions}
use Rattle.chart_places.specs.Scopes.{Scopes, junction_name, scopes_of}
use Rattle.chart_places.proofs.TreeLemmas.{all_lie, placed_count, placed_tree_is_tree}
use Rattle.resolved_tree.specs.Resolved as resolved
use Rattle.resolved_tree.specs.Resolved.{Resolved}
use Rattle.resolved_tree.specs.Plain.{with_inits, plain_node, plain_list, chart_of}
use Rattle.resolved_tree.specs.Promise as promise
use Rattle.resolved_tree.specs.Promise.{CountsFit}
use Rattle.chart_scope.specs.Names.{name_faults, doubled_events, doubled_vars, doubled_states, doubled_junctions}
use Rattle.chart_scope.specs.Names.{used_in_states, used_in_junctions}
use Rattle.chart_scope.specs.Resolution.{AreVarsOf, event_decl, resolved_states, resolved_junction, IsResolutionOf}
use Rattle.accepted_charts.proofs.ListLemmas.{no_first, no_rest, all-map}
use Rattle.accepted_charts.proofs.SizeLemmas.{lists_size, state_sizes, plain_transitions, plain_state_statements}
use Rattle.accepted_charts.proofs.SizeLemmas.{plain_junctions, plain_junction_transitions, plain_junction_statements}
use Rattle.accepted_charts.proofs.LiteralLemmas.{literal_kept}
use Rattle.accepted_charts.proofs.PlacedLemmas.{HaveParts, root_parts, root_shallow, words_kept, root_kept}
use Rattle.accepted_charts.proofs.DistinctLemmas.{texts, distinct_test}
use Rattle.accepted_charts.proofs.NameLemmas.{declared_distinct, siblings_distinct, names_test}
use Rattle.accepted_charts.proofs.UseLemmas.{states_kept, junctions_kept, placed_junctions_kept}
use Rattle.accepted_charts.proofs.ThereLemmas.{AreSized, are_there}

-- ---- declarations

-- the names of events and data, as declared and as in the text
event_names : (es : List EventText)
    → map (λ (e : EventDecl). e.name) (map event_decl es) ≡ texts (map (λ (e : EventText). e.name) es)
event_names [] = refl
event_names (e ∷ es) = ap (λ l. e.name.text ∷ l) (event_names es)

var_names : (vs : List trees.Var) (ds : List Var) → AreVarsOf vs ds
    → map (λ (v : Var). v.name) ds ≡ texts (map (λ (v : trees.Var). v.name) vs)
var_names [] [] h = refl
var_names [] (d ∷ ds) h = absurd h
var_names (v ∷ vs) [] h = absurd h
var_names (v ∷ vs) (d ∷ ds) h = ap₂ (λ x l. x ∷ l) h.0.name (var_names vs ds h.1)

var_flags : (vs : List trees.Var) (ds : List Var) → AreVarsOf vs ds → AllByRecursion HasFlagMode ds
var_flags [] [] h = tt
var_flags [] (d ∷ ds) h = absurd h
var_flags (v ∷ vs) [] h = absurd h
var_flags (v ∷ vs) (d ∷ ds) h = (h.0.flag, var_flags vs ds h.1)

vars_length : (vs : List trees.Var) (ds : List Var) → AreVarsOf vs ds → length ds ≡ length vs
vars_length [] [] h = refl
vars_length [] (d ∷ ds) h = absurd h
vars_length (v ∷ vs) [] h = absurd h
vars_length (v ∷ vs) (d ∷ ds) h = ap suc (vars_length vs ds h.1)

-- a first value
init_kept : (init : InitText) → terms.IsInit init → promise.IsInit init
init_kept (inits.Number negative lit at) h = literal_kept lit h.literal
init_kept (inits.Flag value at) h = tt

inits_kept : (vs : List trees.Var) → AllByRecursion terms.IsVar vs
    → AllByRecursion promise.IsInit (map (λ (v : trees.Var). v.init) vs)
inits_kept vs h = all-map terms.IsVar promise.IsInit (λ (v : trees.Var). v.init) (λ v is. init_kept v.init is.init) vs h

length-with_inits : (vs : List Var) (is : List InitText) → length (with_inits vs is) ≡ length vs
length-with_inits [] is = refl
length-with_inits (v ∷ vs) [] = ap suc (length-with_inits vs [])
length-with_inits (v ∷ vs) (i ∷ is) = ap suc (length-with_inits vs is)

-- texts that are NAMEs
var_texts : (vs : List trees.Var) → AllByRecursion terms.IsVar vs
    → AllByRecursion (λ (x : List ℕ). is_name x ≡ true) (texts (map (λ (v : trees.Var). v.name) vs))
var_texts [] h = tt
var_texts (v ∷ vs) h = (h.0.name, var_texts vs h.1)

event_texts : (es : List EventText) → AllByRecursion (λ (e : EventText). terms.IsNamed e.name) es
    → AllByRecursion (λ (x : List ℕ). is_name x ≡ true) (texts (map (λ (e : EventText). e.name) es))
event_texts [] h = tt
event_texts (e ∷ es) h = (h.0, event_texts es h.1)

placed_texts : (ps : List Placed) → HaveParts ps
    → AllByRecursion (λ (x : List ℕ). is_name x ≡ true) (map (λ (p : Placed). p.parts.name.text) ps)
placed_texts [] h = tt
placed_texts (p ∷ ps) h = (h.0.name, placed_texts ps h.1)

-- the names of states, as listed and as in the text
state_texts : (ps : List Placed)
    → map (λ (p : Placed). p.parts.name.text) ps ≡ texts (map (λ (p : Placed). p.parts.name) ps)
state_texts [] = refl
state_texts (p ∷ ps) = ap (λ l. p.parts.name.text ∷ l) (state_texts ps)

-- ---- counts

event_sizes : (es : List EventText)
    → AsMany (sizes (λ (e : EventText). after_event none) es)
    (record { states = 0; junctions = 0; transitions = 0; variables = 0; events = length es; items = length es })
event_sizes [] = (refl, refl, refl, refl, refl, refl)
event_sizes (e ∷ es) =
    let h = event_sizes es in (omega arith, omega arith, omega arith, omega arith, omega arith, omega arith)

var_sizes : (vs : List trees.Var)
    → AsMany (sizes (λ (v : trees.Var). after_variable none) vs)
    (record { states = 0; junctions = 0; transitions = 0; variables = length vs; events = 0; items = length vs })
var_sizes [] = (refl, refl, refl, refl, refl, refl)
var_sizes (v ∷ vs) =
    let h = var_sizes vs in (omega arith, omega arith, omega arith, omega arith, omega arith, omega arith)

-- the counts of a chart text by its lists
pub record AreCounted (c : trees.Chart) (ps : List Placed) (os : List Owned) : Type 0 where
  pub states : (size_of_chart c).states ≡ (lists_size ps os).states
  pub junctions : (size_of_chart c).junctions ≡ (lists_size ps os).junctions
  pub transitions : (size_of_chart c).transitions ≡ (lists_size ps os).transitions
  pub variables : (size_of_chart c).variables ≡ length c.vars
  pub events : (size_of_chart c).events ≡ length c.events
  pub items : (size_of_chart c).items ≡ (lists_size ps os).items + length c.vars + length c.events

pub chart_sizes : (c : trees.Chart) → AreCounted c (placed_states c.root) (placed_junctions (placed_states c.root))
unfolding placed_states placed_junctions
chart_sizes c =
    let events = event_sizes c.events in
    let vars = var_sizes c.vars in
    let root = state_sizes c.root in
    record {
      states = omega arith;
      junctions = omega arith;
      transitions = omega arith;
      variables = omega arith;
      events = omega arith;
      items = omega arith;
    }

-- a chart text has so few things that their numbers fit
pub record IsSmallText (c : trees.Chart) : Type 0 where
  pub states : length (placed_states c.root) < 2 ^ 32
  pub junctions : length (scopes_of c).junctions < 2 ^ 32
  pub events : length c.events < 2 ^ 32
  pub vars : length c.vars < 2 ^ 32

pub is_small_text : (c : trees.Chart) → IsChart c → IsSmallText c
unfolding scopes_of
is_small_text c is =
    let counts = chart_sizes c in
    let within = is.within in
    let names = length-map (placed_junctions (placed_states c.root)) junction_name in
    record { states = omega arith; junctions = omega arith; events = omega arith; vars = omega arith }

-- ---- the resolved chart of a chart text

length-resolved : (p : Scopes) (s : ℕ) (ps : List Placed) → length (resolved_states p s ps) ≡ length ps
length-resolved p s [] = refl
length-resolved p s (x ∷ xs) = ap suc (length-resolved p (suc s) xs)

-- no part of a chart text has a fault of names
pub record NoFaults (p : Scopes) (c : trees.Chart) : Type 0 where
  pub events : doubled_events p 0 p.events ≡ []
  pub vars : doubled_vars p 0 p.vars ≡ []
  pub states : doubled_states p 0 p.states ≡ []
  pub in_states : used_in_states p 0 (placed_states c.root) ≡ []
  pub in_junctions : used_in_junctions p (placed_junctions (placed_states c.root)) ≡ []

no_faults : (p : Scopes) (c : trees.Chart)
    → doubled_events p 0 p.events ++ doubled_vars p 0 p.vars ++ doubled_states p 0 p.states
    ++ doubled_junctions p 0 p.junctions ++ used_in_states p 0 (placed_states c.root)
    ++ used_in_junctions p (placed_junctions (placed_states c.root)) ≡ []
    → NoFaults p c
no_faults p c none =
    let e = doubled_events p 0 p.events in
    let v = doubled_vars p 0 p.vars in
    let s = doubled_states p 0 p.states in
    let j = doubled_junctions p 0 p.junctions in
    let us = used_in_states p 0 (placed_states c.root) in
    let uj = used_in_junctions p (placed_junctions (placed_states c.root)) in
    let before_uj = no_first (e ++ v ++ s ++ j ++ us) uj none in
    let before_us = no_first (e ++ v ++ s ++ j) us before_uj in
    let before_j = no_first (e ++ v ++ s) j before_us in
    let before_s = no_first (e ++ v) s before_j in
    record {
      events = no_first e v before_s;
      vars = no_rest e v before_s;
      states = no_rest (e ++ v) s before_j;
      in_states = no_rest (e ++ v ++ s ++ j) us before_uj;
      in_junctions = no_rest (e ++ v ++ s ++ j ++ us) uj none;
    }

module _ (c : trees.Chart) (r : Resolved) (is : IsChart c) (res : IsResolutionOf c r) where
  -- as many states as are placed
  pub tree_count : state_count r.tree ≡ length (placed_states c.root)
  tree_count = ap state_count res.tree ∙ placed_count (placed_states c.root)

  pub states_sized : length r.states ≡ length (placed_states c.root)
  states_sized = ap length res.states ∙ length-resolved (scopes_of c) 0 (placed_states c.root)

  pub junctions_sized : length r.junctions ≡ length (placed_junctions (placed_states c.root))
  junctions_sized = ap length res.junctions
      ∙ length-map (placed_junctions (placed_states c.root)) (resolved_junction (scopes_of c))

  pub vars_sized : length r.names.vars ≡ length c.vars
  vars_sized = vars_length c.vars r.names.vars res.vars

  pub events_sized : length r.names.events ≡ length c.events
  events_sized = ap length res.events ∙ length-map c.events event_decl

  pub inits_sized : length r.inits ≡ length c.vars
  inits_sized = ap length res.inits ∙ length-map c.vars (λ (v : trees.Var). v.init)

  -- the parts of the placed states
  pub have_parts : HaveParts (placed_states c.root)
  unfolding placed_states
  have_parts = root_parts usual.depth c.root is.parts is.states

  -- the scopes have as many names as are declared
  pub are_sized : AreSized (scopes_of c) r
  unfolding scopes_of
  are_sized = record {
    tree = placed_tree_is_tree c.root;
    states = ap state_count res.tree;
    events = omega (arith, events_sized, length-map c.events (λ (e : EventText). e.name));
    vars = omega (arith, vars_sized, length-map c.vars (λ (v : trees.Var). v.name));
    junctions = omega (arith, junctions_sized, length-map (placed_junctions (placed_states c.root)) junction_name);
  }

  -- ---- sizes

  nodes_are : map plain_node r.states ≡ map plain_node (resolved_states (scopes_of c) 0 (placed_states c.root))
  nodes_are = ap (map plain_node) res.states

  lists_are : map (λ (j : resolved.Junction). plain_list j.list) r.junctions
      ≡ plain_junctions (scopes_of c) (placed_junctions (placed_states c.root))
  lists_are = ap (map (λ (j : resolved.Junction). plain_list j.list)) res.junctions

  -- the depth of each state
  shallow : (s : ℕ) → s < state_count r.tree → length (ancestors r.tree s) ≤ usual.depth
  unfolding placed_states
  shallow s lt =
      let t = placed_tree (placed_states c.root) in
      let order = (placed_tree_is_tree c.root).pre_order in
      let all = root_shallow t order usual.depth c.root is.states (all_lie (placed_states c.root)) in
      let low = all s (omega arith) (omega (arith, tree_count)) in
      let same = ap (λ u. length (ancestors u s)) res.tree in
      omega arith

  -- its counts are within their limits
  pub is_small : CountsFit (chart_of r)
  unfolding chart_of junction_count
  is_small =
      let p = scopes_of c in
      let ps = placed_states c.root in
      let os = placed_junctions ps in
      let counts = chart_sizes c in
      let within = is.within in
      let tree = tree_count in
      let junctions = junctions_sized in
      let lists = length-map r.junctions (λ (j : resolved.Junction). plain_list j.list) in
      let vars = vars_sized in
      let with = length-with_inits r.names.vars r.inits in
      let events = events_sized in
      let trans = ap (sum_by node_transitions) nodes_are ∙ plain_transitions p 0 ps in
      let stmts = ap (sum_by node_statements) nodes_are ∙ plain_state_statements p 0 ps in
      let list_trans = ap (sum_by (λ (list : List charts.Trans). length list)) lists_are
      ∙ plain_junction_transitions p os in
      let list_stmts = ap (sum_by (sum_by trans_statements)) lists_are ∙ plain_junction_statements p os in
      record {
        states = omega arith;
        depth = shallow;
        junctions = omega arith;
        transitions = omega arith;
        vars = omega arith;
        events = omega arith;
        items = omega arith;
      }

  -- ---- names

  -- the names of the data and the events
  names_declared : declared_names r.names
      ≡ texts (map (λ (v : trees.Var). v.name) c.vars) ++ texts (map (λ (e : EventText). e.name) c.events)
  names_declared =
      ap₂ (λ a b. a ++ b) (var_names c.vars r.names.vars res.vars)
      (ap (map (λ (e : EventDecl). e.name)) res.events ∙ event_names c.events)

  names_of_states : r.names.states ≡ texts (map (λ (x : Placed). x.parts.name) (placed_states c.root))
  names_of_states = res.state_names ∙ state_texts (placed_states c.root)

  states_named : list_all is_name r.names.states ≡ true
  states_named = ap (list_all is_name) res.state_names
      ∙ names_test (map (λ (x : Placed). x.parts.name.text) (placed_states c.root))
      (placed_texts (placed_states c.root) have_parts)

  declared_named : list_all is_name (declared_names r.names) ≡ true
  declared_named =
      let vars = texts (map (λ (v : trees.Var). v.name) c.vars) in
      let events = texts (map (λ (e : EventText). e.name) c.events) in
      ap (list_all is_name) names_declared ∙ list_all-append is_name vars events
      ∙ ap₂ (λ a b. a && b) (names_test vars (var_texts c.vars is.vars))
      (names_test events (event_texts c.events is.events))

  -- ---- from the faults

  module _ (none : name_faults c ≡ []) where
    faultless : NoFaults (scopes_of c) c
    unfolding name_faults
    faultless = no_faults (scopes_of c) c none

    -- NAMEs of which none stands twice
    pub has_names : HasNames r.tree r.names
    unfolding scopes_of
    has_names = record {
      states = states_named;
      declared = declared_named;
      distinct = ap are_distinct names_declared
          ∙ distinct_test _ (declared_distinct (scopes_of c) faultless.events faultless.vars);
      siblings = λ s lt. siblings s;
    }
      where
        siblings : (s : ℕ) → are_distinct (map (state_name r.names) (children_of r.tree s)) ≡ true
        siblings s =
            let names = map (λ (x : Placed). x.parts.name) (placed_states c.root) in
            let ps = placed_states c.root in
            let count = placed_count ps ∙ sym (length-map ps (λ (x : Placed). x.parts.name)) in
            let test = distinct_test _ (siblings_distinct (scopes_of c) faultless.states count s) in
            ap₂ (λ (l : List (List ℕ)) (t : Tree). are_distinct (map (λ x. slice_index_or l x []) (children_of t s)))
            names_of_states res.tree ∙ test

    -- numbers in range
    pub states_in_range : AllByRecursion (promise.IsStateOf r) r.states
    states_in_range = subst (AllByRecursion (promise.IsStateOf r)) (sym res.states)
        (states_kept (scopes_of c) r (are_there (scopes_of c) r are_sized) 0 (placed_states c.root) have_parts
        faultless.in_states)

    pub junctions_in_range : AllByRecursion (λ (j : resolved.Junction). promise.AreTrans r j.list) r.junctions
    unfolding placed_junctions
    junctions_in_range =
        subst (AllByRecursion (λ (j : resolved.Junction). promise.AreTrans r j.list)) (sym res.junctions)
        (junctions_kept (scopes_of c) r (are_there (scopes_of c) r are_sized) (placed_junctions (placed_states c.root))
        (placed_junctions_kept (placed_states c.root) have_parts) faultless.in_junctions)

    -- ---- the promise

    tree_is : IsTree r.tree
    tree_is = subst IsTree (sym res.tree) (placed_tree_is_tree c.root)

    words : (s : ℕ) (x : resolved.State) → slice_get r.states s ≡ Some x → children_of r.tree s ≢ []
        → x.word ≡ comp_of r.tree s
    words s x e some =
        let t = placed_tree (placed_states c.root) in
        let lt = slice_get_within r.states s x e in
        let here : 0 + s ≡ s = omega arith in
        let same : comp_of t (0 + s) ≡ comp_of r.tree s = ap₂ comp_of (sym res.tree) here in
        words_kept t (scopes_of c) 0 (placed_states c.root) (all_lie (placed_states c.root)) s x
        (ap (λ l. slice_get l s) (sym res.states) ∙ e)
        (λ leaf. some ((tree_is.leaves s (omega (arith, states_sized, tree_count))).0 (sym same ∙ leaf)))
        ∙ same

    root_is : (x : resolved.State) → slice_get r.states 0 ≡ Some x → (x.outer ≡ []) × (x.exit ≡ [])
    unfolding placed_states
    root_is x e = root_kept (scopes_of c) c.root x is.inside is.stays (ap (λ l. slice_get l 0) (sym res.states) ∙ e)

    -- the resolved chart keeps the promise
    pub keeps_promise : promise.KeepsPromise r
    keeps_promise = record {
      tree = tree_is;
      sized = states_sized ∙ sym tree_count;
      state_names = ap length res.state_names
          ∙ length-map (placed_states c.root) (λ (x : Placed). x.parts.name.text) ∙ sym tree_count;
      names = has_names;
      flags = var_flags c.vars r.names.vars res.vars;
      inits_sized = inits_sized ∙ sym vars_sized;
      inits = subst (AllByRecursion promise.IsInit) (sym res.inits) (inits_kept c.vars is.vars);
      states = states_in_range;
      junctions = junctions_in_range;
      words = words;
      root = root_is;
      small = is_small;
    }
