-- How many procedures each part of the layout has.
use Rattle.std.proofs.Common.{◌≡◌, ℕ, suc, ◌*◌, List, [], ◌∷◌, ◌++◌, length, Option, Some, None, refl, ap}
use Rattle.std.proofs.Common.{arith, length-append}
use Rattle.std.proofs.lemmas.List.{length-map}
use Rattle.active_config.specs.Tree.{state_count}
use Rattle.actions.specs.Exprs.{Expr, Stmt}
use Rattle.checked_chart.specs.declared.parts.ListKind.{ListKind}
use Rattle.checked_chart.specs.declared.parts.ListKind.TheVariants.{Outer, Inner, Default}
use Rattle.checked_chart.specs.Chart.{Chart, Trans, list_of, junction, junction_count}
use Rattle.chart_code.specs.Orders.{sum_to, span}
use Rattle.chart_code.specs.Ends.{below_count}
use Rattle.chart_code.specs.ReachedJunctions.{reached}
use Rattle.chart_code.specs.Keys.{Key, JunctionOf, Defaults, Arrive, Take, Enter, guard_keys, condition_keys}
use Rattle.chart_code.specs.Keys.{action_keys, trans_keys, parts_keys, action_keys_of, process_keys, state_parts_keys}
use Rattle.chart_code.specs.Keys.{junction_parts_keys, search_keys, lists_keys, group_keys, all_actions}
use Rattle.chart_code.specs.Keys.{all_state_parts, all_junction_parts, all_groups, all_lists, all_processes, layout}
use Rattle.chart_code.specs.Places.{guard_count, block_count, trans_size, parts_size, reached_count, state_parts_size}
use Rattle.chart_code.specs.Places.{junction_parts_size, group_size, lists_size, state_parts_start}
use Rattle.chart_code.specs.Places.{junction_parts_start, groups_start, lists_start, processes_start, total}
use Rattle.chart_code.proofs.Sums.{sum_to_constant}
use Rattle.chart_code.proofs.Segments.{ascending_length, descending_length, span_length}

-- ---- the parts of transitions

-- those of a guard
pub guard_length : (o : Option Expr) → length (guard_keys o) ≡ guard_count o
guard_length None = refl
guard_length (Some e) = refl

-- those of a condition action
pub condition_length : (ss : List Stmt) → length (condition_keys ss) ≡ 2 * block_count ss
condition_length [] = refl
condition_length (s ∷ ss) = refl

-- those of a transition action
pub action_length : (ss : List Stmt) → length (action_keys ss) ≡ block_count ss
action_length [] = refl
action_length (s ∷ ss) = refl

-- those of a transition
pub trans_length : (t : Trans) → length (trans_keys t) ≡ trans_size t
unfolding trans_size
trans_length t =
    omega (
      arith,
      length-append (guard_keys t.guard) (condition_keys t.condition ++ action_keys t.action),
      length-append (condition_keys t.condition) (action_keys t.action),
      guard_length t.guard,
      condition_length t.condition,
      action_length t.action,
    )

-- those of a list
pub parts_length : (ts : List Trans) → length (parts_keys ts) ≡ parts_size ts
unfolding parts_keys parts_size
parts_length [] = refl {a = 0}
parts_length (t ∷ ts) = omega (arith, length-append (trans_keys t) (parts_keys ts), trans_length t, parts_length ts)

-- ---- states

-- the actions of a state
pub actions_length : (s : ℕ) → length (action_keys_of s) ≡ 3
actions_length s = refl

-- the processing of a state
pub process_length : (s : ℕ) → length (process_keys s) ≡ 1
process_length s = refl

module _ (c : Chart) where
  -- the parts of the lists of a state
  pub state_parts_length : (s : ℕ) → length (state_parts_keys c s) ≡ state_parts_size c s
  unfolding state_parts_keys state_parts_size
  state_parts_length s =
      let outer = parts_keys (list_of c s Outer) in
      let inner = parts_keys (list_of c s Inner) in
      let default = parts_keys (list_of c s Default) in
      omega (
        arith,
        length-append outer (inner ++ default),
        length-append inner default,
        parts_length (list_of c s Outer),
        parts_length (list_of c s Inner),
        parts_length (list_of c s Default),
      )

  -- the parts of a junction's list
  pub junction_parts_length : (j : ℕ) → length (junction_parts_keys c j) ≡ junction_parts_size c j
  unfolding junction_parts_size
  junction_parts_length j = parts_length (junction c j)

  -- a list with the junctions that are reached from it
  pub search_length : (s : ℕ) (kind : ListKind) → length (search_keys c s kind) ≡ suc (reached_count c s kind)
  unfolding search_keys reached_count
  search_length s kind = ap suc (length-map (reached c (list_of c s kind)) (λ j. JunctionOf s kind j))

  -- the outer and the inner list of a state
  pub lists_length : (s : ℕ) → length (lists_keys c s) ≡ lists_size c s
  unfolding lists_keys lists_size
  lists_length s =
      omega (
        arith,
        length-append (search_keys c s Outer) (search_keys c s Inner),
        search_length s Outer,
        search_length s Inner,
      )

  -- what a firing takes: the spans that it ends with
  abbrev pub group_enters : ℕ → List Key
  group_enters s = span (Enter s) s (suc (below_count c.tree s))

  -- with those before
  abbrev pub group_takes : ℕ → List Key
  group_takes s = span (Take s) s (suc (below_count c.tree s)) ++ group_enters s

  -- with the defaults, and with what arrives at the state itself
  abbrev pub group_defaults : ℕ → List Key
  group_defaults s = Defaults s ∷ Arrive s s ∷ group_takes s

  -- with the default list
  abbrev pub group_search : ℕ → List Key
  group_search s = search_keys c s Default ++ group_defaults s

  -- with what arrives below the state
  abbrev pub group_arrives : ℕ → List Key
  group_arrives s = span (Arrive s) (suc s) (below_count c.tree s) ++ group_search s

  -- what a firing in a state takes
  pub group_length : (s : ℕ) → length (group_keys c s) ≡ group_size c s
  unfolding group_keys group_size
  group_length s =
      omega (
        arith,
        length-append (span (Arrive s) (suc s) (below_count c.tree s)) (group_search s),
        length-append (search_keys c s Default) (group_defaults s),
        length-append (span (Take s) s (suc (below_count c.tree s))) (group_enters s),
        span_length (Arrive s) (suc s) (below_count c.tree s),
        search_length s Default,
        span_length (Take s) s (suc (below_count c.tree s)),
        span_length (Enter s) s (suc (below_count c.tree s)),
      )

  -- ---- regions

  -- the actions of all states
  pub all_actions_length : length (all_actions c) ≡ state_count c.tree * 3
  all_actions_length =
      omega (
        arith,
        ascending_length action_keys_of (λ s. 3) actions_length (state_count c.tree),
        sum_to_constant 3 (state_count c.tree),
      )

  -- the parts of the transitions of states
  pub all_state_parts_length : length (all_state_parts c) ≡ sum_to (state_parts_size c) (state_count c.tree)
  all_state_parts_length =
      ascending_length (state_parts_keys c) (state_parts_size c) state_parts_length (state_count c.tree)

  -- the parts of the transitions of junctions
  pub all_junction_parts_length : length (all_junction_parts c) ≡ sum_to (junction_parts_size c) (junction_count c)
  all_junction_parts_length =
      ascending_length (junction_parts_keys c) (junction_parts_size c) junction_parts_length (junction_count c)

  -- what firings take
  pub all_groups_length : length (all_groups c) ≡ sum_to (group_size c) (state_count c.tree)
  all_groups_length = descending_length (group_keys c) (group_size c) group_length (state_count c.tree)

  -- outer and inner lists
  pub all_lists_length : length (all_lists c) ≡ sum_to (lists_size c) (state_count c.tree)
  all_lists_length = descending_length (lists_keys c) (lists_size c) lists_length (state_count c.tree)

  -- processing
  pub all_processes_length : length (all_processes c) ≡ state_count c.tree
  all_processes_length =
      omega (
        arith,
        descending_length process_keys (λ s. 1) process_length (state_count c.tree),
        sum_to_constant 1 (state_count c.tree),
      )

  -- the procedures after those of each region
  abbrev pub from_lists : List Key
  from_lists = all_lists c ++ all_processes c

  -- with what firings take
  abbrev pub from_groups : List Key
  from_groups = all_groups c ++ from_lists

  -- with the parts of junctions
  abbrev pub from_junction_parts : List Key
  from_junction_parts = all_junction_parts c ++ from_groups

  -- with the parts of states
  abbrev pub from_state_parts : List Key
  from_state_parts = all_state_parts c ++ from_junction_parts

  -- with the actions of states
  abbrev pub from_actions : List Key
  from_actions = all_actions c ++ from_state_parts

  -- there are as many procedures as arithmetic says
  pub layout_length : length (layout c) ≡ total c
  unfolding layout total processes_start lists_start groups_start junction_parts_start state_parts_start
  layout_length =
      omega (
        arith,
        length-append (all_actions c) from_state_parts,
        length-append (all_state_parts c) from_junction_parts,
        length-append (all_junction_parts c) from_groups,
        length-append (all_groups c) from_lists,
        length-append (all_lists c) (all_processes c),
        all_actions_length,
        all_state_parts_length,
        all_junction_parts_length,
        all_groups_length,
        all_lists_length,
        all_processes_length,
      )
