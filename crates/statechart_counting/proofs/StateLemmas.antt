-- The states of the chart for which a statechart stands are those without what counts, with their counters counting.
use Rattle.std.proofs.Common.{◌≡◌, ◌≢◌, ◌≤◌, ℕ, suc, ◌+◌, List, [], ◌∷◌, ◌++◌, map, length, Bool, true, false, Option, Some, None}
use Rattle.std.proofs.Common.{refl, ap, ap₂, ◌∙◌, sym, append_assoc, length-append, append-nil, arith}
use Rattle.std.proofs.lemmas.List.{map-append, length-map}
use Rattle.std.specs.Prelude.{slice_index_or, Contains}
use Rattle.std.specs.List.{flat_map}
use Rattle.std.proofs.lemmas.List.Elements.{Contains-append_right}
use Rattle.std.proofs.Math.Seq.{get_or-append_seam}
use Rattle.token_grammar.specs.declared.token.Span.{Span}
use Rattle.chart_tree.specs.Trees as core
use Rattle.chart_places.specs.Placed as places
use Rattle.chart_places.specs.Placed.{placed_states}
use Rattle.statechart_tree.specs.Trees.{Parts, State, StateOf, States, NoState, MoreStates, Statechart}
use Rattle.statechart_meaning.specs.Names.{Home}
use Rattle.statechart_meaning.specs.Scope.{Declared, Frame, Calls, state_count, states_count, below_path, frame_of}
use Rattle.statechart_meaning.specs.Declared as statecharts
use Rattle.statechart_meaning.specs.Declared.{Placed, placed, placed_state, placed_below, counters_in, vars_in, root_home}
use Rattle.statechart_meaning.specs.Counting.{OnAction}
use Rattle.statechart_meaning.specs.Counters as statechart_counters
use Rattle.statechart_meaning.specs.States.{expand_state, expand_states, expand_placed}
use Rattle.statechart_meaning.specs.Expand.{expand, uncounted, declared_of, functions_of, counters_of, every_of, ons_of}
use Rattle.statechart_meaning.specs.Expand.{state_place, counts_of}
use Rattle.counting_trees.specs.Counters.{Counter, counter_var, next_junction, reset_stmt, count_trans, events_of}
use Rattle.counting_trees.specs.Counting.{own, all_of, with_counting, size, size_below, counting_state, counting_below}
use Rattle.counting_trees.specs.Counting.{counting, counting_list, IsReady, junctions_in}
use Rattle.statechart_counting.specs.Counters.{counter_of, counters_of_states, counters_by_state}
use Rattle.statechart_counting.proofs.CounterLemmas.{resets_same, vars_same, counting_same, all_same}

-- ---- how many states there are

module _ (b : Bool) (d : Declared) (calls : Calls) where
  mutual
    pub state_size : (above : List Frame) (home : Home) (first : List core.Trans) (more : List core.Junction) (s : State)
        → size (expand_state b d calls above home first more s) ≡ state_count s
    state_size above home first more (StateOf p states) =
        ap suc (states_size (frame_of home p states ∷ above) home.path (suc home.number) states)

    states_size : (above : List Frame) (path : List (List ℕ)) (n : ℕ) (ss : States)
        → size_below (expand_states b d calls above path n ss) ≡ states_count ss
    states_size above path n NoState = refl
    states_size above path n (MoreStates (StateOf p states) others) =
        ap₂ (λ x y. x + y)
        (state_size above (record { path = below_path path p; number = n }) [] [] (StateOf p states))
        (states_size above path (n + state_count (StateOf p states)) others)

mutual
  pub placed_size : (above : List Frame) (home : Home) (s : State) → length (placed_state above home s) ≡ state_count s
  placed_size above home (StateOf p states) =
      ap suc (below_size (frame_of home p states ∷ above) home.path (suc home.number) states)

  below_size : (above : List Frame) (path : List (List ℕ)) (n : ℕ) (ss : States)
      → length (placed_below above path n ss) ≡ states_count ss
  below_size above path n NoState = refl
  below_size above path n (MoreStates (StateOf p states) others) =
      let home : Home = record { path = below_path path p; number = n } in
      length-append (placed_state above home (StateOf p states)) _
      ∙ ap₂ (λ x y. x + y) (placed_size above home (StateOf p states))
      (below_size above path (n + state_count (StateOf p states)) others)

-- ---- what a state has

-- four parts of an entry action, and of an inner list
behind_first : {A : Type 0} (r e i b : List A) → r ++ e ++ i ++ b ≡ r ++ ([] ++ e ++ i ++ b)
behind_first r e i b =
    ap (λ l. l ++ b) (append_assoc (r) e i) ∙ append_assoc r (e ++ i) b

behind_three : {A : Type 0} (f r o i : List A) → (f ++ r) ++ o ++ i ≡ f ++ (r ++ o ++ i)
behind_three f r o i = ap (λ l. l ++ i) (append_assoc f r o) ∙ append_assoc f (r ++ o) i

-- ---- states

module _ (d : Declared) (calls : Calls) (ks : List (List Counter)) where
  -- what a state has is the same with its counters counting
  parts_same : (first rest : List core.Trans) (more : List core.Junction) (frames : List Frame) (p : Parts) (n : ℕ)
      → own ks n ≡ map counter_of (counters_in d.events (record { frames = frames; parts = p }))
      → expand_placed true d calls (first ++ rest) more frames p
      ≡ with_counting (own ks n) first (expand_placed false d calls rest more frames p)
  parts_same first rest more frames p n e =
      let x : Placed = record { frames = frames; parts = p } in
      let plain = expand_placed false d calls rest more frames p in
      let resets = map statechart_counters.reset (counters_in d.events x) in
      let same : resets ≡ map reset_stmt (own ks n) =
      resets_same (counters_in d.events x) ∙ sym (ap (map reset_stmt) e) in
      let entry : (expand_placed true d calls (first ++ rest) more frames p).entry
      ≡ map reset_stmt (own ks n) ++ plain.entry =
      behind_first resets _ _ _ ∙ ap (λ (l : List core.Stmt). l ++ plain.entry) same in
      let inner : (expand_placed true d calls (first ++ rest) more frames p).inner ≡ first ++ plain.inner =
      behind_three first rest _ _ in
      λ i. record {
        name = plain.name;
        comp = plain.comp;
        entry = entry i;
        during = plain.during;
        exit = plain.exit;
        history = plain.history;
        outer = plain.outer;
        inner = inner i;
        default = plain.default;
        junctions = plain.junctions;
      }

  -- the list behind some others
  own_is : (before after : List (List Counter)) (l : List Counter) (n : ℕ) → ks ≡ before ++ (l ∷ after)
      → length before ≡ n → own ks n ≡ l
  own_is before after l n e len =
      ap₂ (λ (x : List (List Counter)) (m : ℕ). slice_index_or x m []) e (sym len)
      ∙ get_or-append_seam before l after []

  mutual
    state_same : (before after : List (List Counter)) (n : ℕ) (above : List Frame) (home : Home)
        (first rest : List core.Trans) (more : List core.Junction) (s : State)
        → ks ≡ before ++ (counters_of_states d.events (placed_state above home s) ++ after) → length before ≡ n
        → expand_state true d calls above home (first ++ rest) more s
        ≡ counting_state ks n first (expand_state false d calls above home rest more s)
    state_same before after n above home first rest more (StateOf p states) e len =
        let frames = frame_of home p states ∷ above in
        let mine = map counter_of (counters_in d.events (record { frames = frames; parts = p })) in
        let below =
        counters_of_states d.events (placed_below frames home.path (suc home.number) states) ++ after in
        let longer : length (before ++ mine ∷ []) ≡ suc n =
        omega (arith, length-append before (mine ∷ []), len) in
        ap₂ core.StateOf (parts_same first rest more frames p n (own_is before below mine n e len))
        (states_same (before ++ mine ∷ []) after (suc n) frames home.path (suc home.number) states
        (e ∙ sym (append_assoc before (mine ∷ []) below)) longer)

    states_same : (before after : List (List Counter)) (n : ℕ) (above : List Frame) (path : List (List ℕ)) (m : ℕ)
        (ss : States)
        → ks ≡ before ++ (counters_of_states d.events (placed_below above path m ss) ++ after) → length before ≡ n
        → expand_states true d calls above path m ss
        ≡ counting_below ks n (expand_states false d calls above path m ss)
    states_same before after n above path m NoState e len = refl
    states_same before after n above path m (MoreStates (StateOf p states) others) e len =
        let home : Home = record { path = below_path path p; number = m } in
        let here = placed_state above home (StateOf p states) in
        let there = placed_below above path (m + state_count (StateOf p states)) others in
        let f : Placed → List Counter = λ x. map counter_of (counters_in d.events x) in
        let rest = map f there ++ after in
        let apart : ks ≡ before ++ (map f here ++ rest) =
        e ∙ ap (λ l. before ++ (l ++ after)) (map-append f here there)
        ∙ ap (λ l. before ++ l) (append_assoc (map f here) (map f there) after) in
        let x = expand_state false d calls above home [] [] (StateOf p states) in
        let longer : length (before ++ map f here) ≡ n + size x =
        omega (
          arith,
          length-append before (map f here),
          length-map here f,
          placed_size above home (StateOf p states),
          state_size false d calls above home [] [] (StateOf p states),
          len,
        ) in
        ap₂ core.MoreStates (state_same before rest n above home [] [] [] (StateOf p states) apart len)
        (states_same (before ++ map f here) after (n + size x) above path
        (m + state_count (StateOf p states)) others (apart ∙ sym (append_assoc before (map f here) rest)) longer)

-- ---- statecharts

-- the chart is the one without what counts, with its counters counting
pub counted_same : (x : Statechart) → expand x ≡ counting (counters_by_state x) (uncounted x)
unfolding expand uncounted counting
counted_same x =
    let ks = counters_by_state x in
    let d = declared_of x in
    let repeated = counts_of false x in
    let nexts = statechart_counters.next_junctions (counters_of x) (every_of x) (ons_of x) (state_place x.root) in
    let counts = counting_same (counters_of x)
    ∙ ap (λ (l : List Counter). map (count_trans l) (events_of l)) (sym (all_same x.events (placed x.root))) in
    ap (λ (r : core.State). with_root x r)
    (ap (λ (f : List core.Trans). expand_state true d (functions_of x) [] root_home (f ++ repeated) nexts x.root) counts
    ∙ state_same d (functions_of x) ks [] [] 0 [] root_home (counting_list ks) repeated nexts x.root
    (sym (append-nil ks)) refl)
  where
    with_root : Statechart → core.State → core.Chart
    with_root x r = record { events = (uncounted x).events; vars = (uncounted x).vars; root = r }

-- ---- ready for counting

-- where there is a counter, the junction at which nothing is found is there
next_there : (ks : List statecharts.Counter) (ms : List statecharts.EveryCounter) (os : List OnAction) (at : Span)
    → map counter_of ks ≢ [] → Contains (statechart_counters.next_junctions ks ms os at) (next_junction at)
next_there [] ms os at some = absurd (some refl)
next_there (k ∷ ks) ms os at some = (0, omega arith, refl)

-- it stands in the statechart
in_root : (d : Declared) (calls : Calls) (first : List core.Trans) (more : List core.Junction) (s : State)
    (j : core.Junction) → Contains more j
    → Contains (junctions_in (expand_state false d calls [] root_home first more s)) j
in_root d calls first more (StateOf p states) j there = Contains-append_right _ more j there

-- ---- as many states as lists

mutual
  as_many : (parent : Option ℕ) (n : ℕ) (s : core.State) → length (places.placed_from parent n s) ≡ size s
  as_many parent n (core.StateOf p below) = ap suc (as_many_below n (suc n) below)

  as_many_below : (s n : ℕ) (ss : core.States) → length (places.placed_below s n ss) ≡ size_below ss
  as_many_below s n core.NoState = refl
  as_many_below s n (core.MoreStates x rest) =
      let here = places.placed_from (Some s) n x in
      length-append here (places.placed_below s (n + length here) rest)
      ∙ ap₂ (λ a b. a + b) (as_many (Some s) n x) (as_many_below s (n + length here) rest)

enough : (x : Statechart) → length (counters_by_state x) ≤ length (places.placed_states (uncounted x).root)
unfolding uncounted placed_states
enough x =
    let root = (uncounted x).root in
    let lists : length (counters_by_state x) ≡ state_count x.root =
    length-map (placed x.root) (λ (p : Placed). map counter_of (counters_in x.events p))
    ∙ placed_size [] root_home x.root in
    let states : length (places.placed_from None 0 root) ≡ state_count x.root =
    as_many None 0 root
    ∙ state_size false (declared_of x) (functions_of x) [] root_home (counts_of false x) _ x.root in
    omega (arith, lists, states)

-- the chart without what counts is ready for its counters
pub ready : (x : Statechart) → IsReady (counters_by_state x) (uncounted x)
unfolding uncounted
ready x =
    let all = all_same x.events (placed x.root) in
    let others = flat_map (vars_in (declared_of x)) (placed x.root) ++ map statecharts.every_var (every_of x) in
    record {
      others = others;
      vars =
          ap (λ (l : List core.Var). others ++ l)
          (vars_same (counters_of x) ∙ ap (map counter_var) (sym all));
      states = enough x;
      junction = λ some. (
        state_place x.root,
        in_root (declared_of x) (functions_of x) (counts_of false x) _ x.root (next_junction (state_place x.root))
            (next_there (counters_of x) (every_of x) (ons_of x) (state_place x.root) (λ none. some (all ∙ none))),
      );
    }
