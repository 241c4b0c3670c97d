-- What holds of each kind of procedure at its number holds of each procedure of the layout.
use Rattle.std.proofs.Common.{◌≡◌, ℕ, suc, ◌+◌, ◌-◌, ◌*◌, ◌≤◌, ◌<◌, true, List, [], ◌∷◌, ◌++◌, length, Some}
use Rattle.std.proofs.Common.{sym, ap, subst, arith}
use Rattle.std.specs.Prelude.{slice_get}
use Rattle.std.specs.List.{AllByRecursion}
use Rattle.active_config.specs.Tree.{state_count}
use Rattle.checked_chart.specs.declared.parts.ListKind.{ListKind}
use Rattle.checked_chart.specs.declared.parts.ListKind.TheVariants.{Outer, Inner, Default}
use Rattle.checked_chart.specs.Chart.{Chart, Trans, list_of, junction, junction_count}
use Rattle.checked_chart.specs.Valid.{IsValid}
use Rattle.chart_code.specs.Orders.{sum_to, sum_between, span}
use Rattle.chart_code.specs.Ends.{end_of, below_count}
use Rattle.chart_code.specs.ReachedJunctions.{has, place_of, reached}
use Rattle.chart_code.specs.Keys.{Key, EndMark, Entry, During, ExitAction, Leave, Exit, Arrive, ListOf, JunctionOf}
use Rattle.chart_code.specs.Keys.{Defaults, Take, Enter, Process, trans_keys, parts_keys, action_keys_of}
use Rattle.chart_code.specs.Keys.{process_keys}
use Rattle.chart_code.specs.Keys.{state_parts_keys, junction_parts_keys, search_keys, lists_keys, group_keys}
use Rattle.chart_code.specs.Keys.{all_actions, all_state_parts, all_junction_parts, all_groups, all_lists}
use Rattle.chart_code.specs.Keys.{all_processes, layout}
use Rattle.chart_code.specs.Places.{reached_count, state_parts_size, junction_parts_size, group_size, lists_size}
use Rattle.chart_code.specs.Places.{state_parts_start, junction_parts_start, groups_start, lists_start}
use Rattle.chart_code.specs.Places.{processes_start, group_at, lists_at, list_at, arrive_at, numbers, list_numbers}
use Rattle.chart_code.proofs.Sums.{sum_to_constant, ones}
use Rattle.chart_code.proofs.Segments.{span_length}
use Rattle.chart_code.proofs.EachFrom.{EachFrom, from_get, from_at, from_append, from_ascending, from_descending}
use Rattle.chart_code.proofs.EachFrom.{from_span, from_map}
use Rattle.chart_code.proofs.EndsLemmas.{end_after}
use Rattle.chart_code.proofs.Members.{has_at, distinct_place}
use Rattle.chart_code.proofs.ReachedLemmas.{are_reached, list_valid}
use Rattle.chart_code.proofs.Sizes.{actions_length, process_length, state_parts_length, junction_parts_length}
use Rattle.chart_code.proofs.Sizes.{search_length, lists_length, group_length, all_actions_length}
use Rattle.chart_code.proofs.Sizes.{all_state_parts_length, all_junction_parts_length, all_groups_length}
use Rattle.chart_code.proofs.Sizes.{all_lists_length, group_enters, group_takes, group_defaults, group_search}
use Rattle.chart_code.proofs.Sizes.{group_arrives, from_lists, from_groups, from_junction_parts, from_state_parts}

-- ---- the kinds

-- P holds of each kind of procedure at its number, and of the parts of transitions of which Q holds at whatever number;
-- and Q holds of all transitions of the chart
pub record Every (c : Chart) (Q : Trans → Type 0) (P : ℕ → Key → Type 0) : Type 0 where
  pub end_mark : P (numbers c).end_mark EndMark
  pub entry : (s : ℕ) → s < state_count c.tree → P ((numbers c).entry s) (Entry s)
  pub during : (s : ℕ) → s < state_count c.tree → P ((numbers c).during s) (During s)
  pub exit_action : (s : ℕ) → s < state_count c.tree → P ((numbers c).exit_action s) (ExitAction s)
  pub lists : (s : ℕ) (kind : ListKind) → s < state_count c.tree → AllByRecursion Q (list_of c s kind)
  pub junctions : (j : ℕ) → j < junction_count c → AllByRecursion Q (junction c j)
  pub parts : (t : Trans) (p : ℕ) → Q t → EachFrom P p (trans_keys t)
  pub leave : (s : ℕ) → s < state_count c.tree → P ((numbers c).leave s) (Leave s)
  pub exit : (s : ℕ) → s < state_count c.tree → P ((numbers c).exit s) (Exit s)
  pub arrive : (s d : ℕ) → s < state_count c.tree → s ≤ d → d < end_of c.tree s
      → P ((numbers c).arrive s d) (Arrive s d)
  pub search : (s : ℕ) (kind : ListKind) → s < state_count c.tree → P ((numbers c).search s kind) (ListOf s kind)
  pub junction : (s : ℕ) (kind : ListKind) (j : ℕ) → s < state_count c.tree
      → has (reached c (list_of c s kind)) j ≡ true → P ((list_numbers c).junction s kind j) (JunctionOf s kind j)
  pub defaults : (s : ℕ) → s < state_count c.tree → P ((numbers c).defaults s) (Defaults s)
  pub take : (s d : ℕ) → s < state_count c.tree → s ≤ d → d < end_of c.tree s → P ((numbers c).take s d) (Take s d)
  pub enter : (s d : ℕ) → s < state_count c.tree → s ≤ d → d < end_of c.tree s → P ((numbers c).enter s d) (Enter s d)
  pub process : (s : ℕ) → s < state_count c.tree → P ((numbers c).process s) (Process s)

module _ (c : Chart) (valid : IsValid c) (Q : Trans → Type 0) (P : ℕ → Key → Type 0) (E : Every c Q P) where
  -- ---- the parts of transitions

  -- those of a list
  each_parts : (p : ℕ) (ts : List Trans) → AllByRecursion Q ts → EachFrom P p (parts_keys ts)
  unfolding parts_keys
  each_parts p [] q = tt
  each_parts p (t ∷ ts) q =
      from_append P p (trans_keys t) (parts_keys ts) (E.parts t p q.0) (each_parts (p + length (trans_keys t)) ts q.1)

  -- those of the lists of a state
  each_state_parts : (p s : ℕ) → s < state_count c.tree → EachFrom P p (state_parts_keys c s)
  unfolding state_parts_keys
  each_state_parts p s lt =
      let outer = parts_keys (list_of c s Outer) in
      let inner = parts_keys (list_of c s Inner) in
      let default = parts_keys (list_of c s Default) in
      from_append P p outer (inner ++ default) (each_parts p (list_of c s Outer) (E.lists s Outer lt))
      (from_append P (p + length outer) inner default
      (each_parts (p + length outer) (list_of c s Inner) (E.lists s Inner lt))
      (each_parts (p + length outer + length inner) (list_of c s Default) (E.lists s Default lt)))

  -- ---- states

  module _ (s : ℕ) (lt : s < state_count c.tree) where
    -- the first of the group, how many states are below, and how many junctions the default list reaches
    abbrev a : ℕ
    a = group_at c s

    abbrev u : ℕ
    u = below_count c.tree s

    abbrev j : ℕ
    j = reached_count c s Default

    -- how a state that many after s is related to it
    within : (k : ℕ) → k < suc u → s + k < end_of c.tree s
    within k less = omega (arith, end_after c.tree valid.tree s lt)

    -- the actions
    each_action : EachFrom P (1 + s * 3) (action_keys_of s)
    unfolding numbers
    each_action =
        let during : 2 + s * 3 ≡ suc (1 + s * 3) = omega arith in
        let exit : 3 + s * 3 ≡ suc (suc (1 + s * 3)) = omega arith in (
          E.entry s lt,
          (
            subst (λ i. P i (During s)) during (E.during s lt),
            (subst (λ i. P i (ExitAction s)) exit (E.exit_action s lt), tt),
          ),
        )

    -- a list and its junctions
    each_search : (kind : ListKind) → EachFrom P (list_at c s kind) (search_keys c s kind)
    unfolding numbers list_numbers search_keys
    each_search kind = (
      E.search s kind lt,
      from_map P (λ i. JunctionOf s kind i) all (suc (list_at c s kind)) (λ k i e.
          let once = (are_reached c valid (list_of c s kind) (list_valid c valid s kind)).once in
          let place = distinct_place all k i once e in
          let n : list_at c s kind + 1 + place_of all i ≡ suc (list_at c s kind) + k = omega (arith, place) in
          subst (λ p. P p (JunctionOf s kind i)) n (E.junction s kind i lt (has_at all k i e))),
    )
      where
        all : List ℕ
        all = reached c (list_of c s kind)

    -- both lists
    each_lists : EachFrom P (lists_at c s) (lists_keys c s)
    unfolding lists_keys
    each_lists =
        from_append P (lists_at c s) (search_keys c s Outer) (search_keys c s Inner) (each_search Outer)
        (from_at P (lists_at c s + 1 + reached_count c s Outer) (lists_at c s + length (search_keys c s Outer))
        (search_keys c s Inner) (omega (arith, search_length c s Outer)) (each_search Inner))

    -- entry
    each_enter : EachFrom P (a + 6 + 2 * u + j) (group_enters c s)
    unfolding numbers
    each_enter = from_span P (Enter s) s (suc u) (a + 6 + 2 * u + j) (λ k less.
        let n : s + k - s ≡ k = omega arith in
        subst (λ i. P (a + 6 + 2 * u + j + i) (Enter s (s + k))) n (E.enter s (s + k) lt (omega arith) (within k less)))

    -- firings, and entry
    each_take : EachFrom P (a + 5 + u + j) (group_takes c s)
    unfolding numbers
    each_take =
        from_append P (a + 5 + u + j) (span (Take s) s (suc u)) (group_enters c s)
        (from_span P (Take s) s (suc u) (a + 5 + u + j) (λ k less.
        let n : s + k - s ≡ k = omega arith in
        subst (λ i. P (a + 5 + u + j + i) (Take s (s + k))) n (E.take s (s + k) lt (omega arith) (within k less))))
        (from_at P (a + 6 + 2 * u + j) (a + 5 + u + j + length (span (Take s) s (suc u))) (group_enters c s)
        (omega (arith, span_length (Take s) s (suc u))) each_enter)

    -- defaults, arrival at the state itself, and those
    each_default : EachFrom P (a + 3 + u + j) (group_defaults c s)
    unfolding numbers
    each_default =
        let z : s - s ≡ 0 = omega arith in
        let n : arrive_at c s (s - s) ≡ suc (a + 3 + u + j) = omega (arith, ap (arrive_at c s) z) in
        let high : s < end_of c.tree s = omega (arith, end_after c.tree valid.tree s lt) in (
          E.defaults s lt,
          (
            subst (λ i. P i (Arrive s s)) n (E.arrive s s lt (omega arith) high),
            from_at P (a + 5 + u + j) (suc (suc (a + 3 + u + j))) (group_takes c s) (omega arith) each_take,
          ),
        )

    -- arrival below the state, the default list, and those
    each_arrive : EachFrom P (a + 2) (group_arrives c s)
    unfolding numbers
    each_arrive =
        from_append P (a + 2) (span (Arrive s) (suc s) u) (group_search c s)
        (from_span P (Arrive s) (suc s) u (a + 2) (λ k less.
        let z : suc s + k - s ≡ suc k = omega arith in
        let n : arrive_at c s (suc s + k - s) ≡ a + 2 + k = ap (arrive_at c s) z in
        let m : suc s + k ≡ s + suc k = omega arith in
        subst (λ i. P i (Arrive s (suc s + k))) n (E.arrive s (suc s + k) lt (omega arith)
        (subst (λ d. d < end_of c.tree s) (sym m) (within (suc k) (omega arith))))))
        (from_append P (a + 2 + length (span (Arrive s) (suc s) u)) (search_keys c s Default) (group_defaults c s)
        (from_at P (a + 2 + u) (a + 2 + length (span (Arrive s) (suc s) u)) (search_keys c s Default)
        (omega (arith, span_length (Arrive s) (suc s) u)) (each_search Default))
        (from_at P (a + 3 + u + j)
        (a + 2 + length (span (Arrive s) (suc s) u) + length (search_keys c s Default)) (group_defaults c s)
        (omega (arith, span_length (Arrive s) (suc s) u, search_length c s Default)) each_default))

    -- what a firing takes
    each_group : EachFrom P a (group_keys c s)
    unfolding numbers group_keys
    each_group =
        let exit : a + 1 ≡ suc a = omega arith in (
          E.leave s lt,
          (
            subst (λ i. P i (Exit s)) exit (E.exit s lt),
            from_at P (a + 2) (suc (suc a)) (group_arrives c s) (omega arith) each_arrive,
          ),
        )

    -- processing
    each_process : EachFrom P (processes_start c + sum_between (λ i. 1) (suc s) (state_count c.tree)) (process_keys s)
    unfolding numbers
    each_process = (
      let n : processes_start c + (state_count c.tree - suc s)
          ≡ processes_start c + sum_between (λ i. 1) (suc s) (state_count c.tree) =
          omega (arith, ones (suc s) (state_count c.tree) lt) in
          subst (λ i. P i (Process s)) n (E.process s lt),
      tt,
    )

  -- ---- all

  -- the actions of all states
  each_of_actions : EachFrom P 1 (all_actions c)
  each_of_actions = from_ascending P action_keys_of (λ i. 3) actions_length (state_count c.tree) 1 (λ s lt.
      from_at P (1 + s * 3) (1 + sum_to (λ i. 3) s) (action_keys_of s) (omega (arith, sum_to_constant 3 s))
      (each_action s lt))

  -- the parts of the transitions of states
  each_of_state_parts : EachFrom P (state_parts_start c) (all_state_parts c)
  each_of_state_parts =
      from_ascending P (state_parts_keys c) (state_parts_size c) (state_parts_length c) (state_count c.tree)
      (state_parts_start c) (λ s lt. each_state_parts (state_parts_start c + sum_to (state_parts_size c) s) s lt)

  -- the parts of the transitions of junctions
  each_of_junction_parts : EachFrom P (junction_parts_start c) (all_junction_parts c)
  each_of_junction_parts =
      from_ascending P (junction_parts_keys c) (junction_parts_size c) (junction_parts_length c) (junction_count c)
      (junction_parts_start c) (λ j lt.
      each_parts (junction_parts_start c + sum_to (junction_parts_size c) j) (junction c j) (E.junctions j lt))

  -- what firings take
  each_of_groups : EachFrom P (groups_start c) (all_groups c)
  unfolding group_at
  each_of_groups =
      from_descending P (group_keys c) (group_size c) (group_length c) (state_count c.tree) (groups_start c) each_group

  -- outer and inner lists
  each_of_lists : EachFrom P (lists_start c) (all_lists c)
  unfolding lists_at
  each_of_lists =
      from_descending P (lists_keys c) (lists_size c) (lists_length c) (state_count c.tree) (lists_start c) each_lists

  -- processing
  each_of_processes : EachFrom P (processes_start c) (all_processes c)
  each_of_processes =
      from_descending P process_keys (λ i. 1) process_length (state_count c.tree) (processes_start c) each_process

  -- what firings take, lists, and processing
  each_from_groups : EachFrom P (groups_start c) (from_groups c)
  unfolding lists_start processes_start
  each_from_groups =
      from_append P (groups_start c) (all_groups c) (from_lists c) each_of_groups
      (from_append P (groups_start c + length (all_groups c)) (all_lists c) (all_processes c)
      (from_at P (lists_start c) (groups_start c + length (all_groups c)) (all_lists c)
      (omega (arith, all_groups_length c)) each_of_lists)
      (from_at P (processes_start c) (groups_start c + length (all_groups c) + length (all_lists c)) (all_processes c)
      (omega (arith, all_groups_length c, all_lists_length c)) each_of_processes))

  -- all procedures
  each_of_layout : EachFrom P 0 (layout c)
  unfolding layout numbers state_parts_start junction_parts_start groups_start lists_start processes_start
  each_of_layout = (
    E.end_mark,
    from_append P 1 (all_actions c) (from_state_parts c) each_of_actions
        (from_append P (1 + length (all_actions c)) (all_state_parts c) (from_junction_parts c)
        (from_at P (state_parts_start c) (1 + length (all_actions c)) (all_state_parts c)
        (omega (arith, all_actions_length c)) each_of_state_parts)
        (from_append P (1 + length (all_actions c) + length (all_state_parts c)) (all_junction_parts c) (from_groups c)
        (from_at P (junction_parts_start c) (1 + length (all_actions c) + length (all_state_parts c))
        (all_junction_parts c)
        (omega (arith, all_actions_length c, all_state_parts_length c)) each_of_junction_parts)
        (from_at P (groups_start c)
        (1 + length (all_actions c) + length (all_state_parts c) + length (all_junction_parts c)) (from_groups c)
        (omega (arith, all_actions_length c, all_state_parts_length c, all_junction_parts_length c))
        each_from_groups))),
  )

  -- what holds of each kind holds of each procedure
  pub every : (p : ℕ) (key : Key) → slice_get (layout c) p ≡ Some key → P p key
  every p key e = let z : 0 + p ≡ p = omega arith in
      subst (λ i. P i key) z (from_get P (layout c) 0 p key each_of_layout e)
