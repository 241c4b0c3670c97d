-- Where the regions of the layout stand, and what each has of a state, a list or a junction.
use Rattle.std.proofs.Common.{ℕ, suc, ◌+◌, ◌-◌, ◌*◌, ◌<◌, List, [], ◌∷◌, ◌++◌, length}
use Rattle.std.proofs.Common.{arith}
use Rattle.active_config.specs.Tree.{state_count}
use Rattle.checked_chart.specs.declared.parts.ListKind.{ListKind}
use Rattle.checked_chart.specs.declared.parts.ListKind.TheVariants.{Outer, Inner, Default}
use Rattle.checked_chart.specs.Chart.{Chart, list_of, junction, junction_count}
use Rattle.chart_code.specs.Orders.{sum_to, sum_between}
use Rattle.chart_code.specs.Keys.{Key, EndMark, parts_keys, action_keys_of, process_keys, state_parts_keys}
use Rattle.chart_code.specs.Keys.{junction_parts_keys, lists_keys, group_keys, all_actions, all_state_parts}
use Rattle.chart_code.specs.Keys.{all_junction_parts, all_groups, all_lists, all_processes, layout}
use Rattle.chart_code.specs.Places.{parts_size, state_parts_size, junction_parts_size, group_size, lists_size}
use Rattle.chart_code.specs.Places.{state_parts_start, junction_parts_start, groups_start, lists_start}
use Rattle.chart_code.specs.Places.{processes_start, parts_at, junction_parts_at, group_at, lists_at}
use Rattle.chart_code.proofs.Sums.{sum_to_constant, ones}
use Rattle.chart_code.proofs.Segments.{Holds, holds_all, holds_at, holds_front, holds_back}
use Rattle.chart_code.proofs.Segments.{holds_ascending, holds_descending}
use Rattle.chart_code.proofs.Sizes.{actions_length, process_length, parts_length, state_parts_length}
use Rattle.chart_code.proofs.Sizes.{junction_parts_length, lists_length, group_length, all_actions_length}
use Rattle.chart_code.proofs.Sizes.{all_state_parts_length, all_junction_parts_length, all_groups_length}
use Rattle.chart_code.proofs.Sizes.{all_lists_length, from_lists, from_groups, from_junction_parts, from_state_parts}
use Rattle.chart_code.proofs.Sizes.{from_actions}

module _ (c : Chart) where
  -- all procedures
  abbrev L : List Key
  L = layout c

  -- ---- regions

  -- the end mark stands first
  pub whole : Holds L 0 (EndMark ∷ from_actions c)
  unfolding layout
  whole = holds_all L

  -- the actions of states
  at_actions : Holds L 1 (from_actions c)
  at_actions = holds_at L (0 + length (EndMark ∷ [])) 1 (from_actions c) (omega arith)
      (holds_back L 0 (EndMark ∷ []) (from_actions c) whole)

  -- the parts of the transitions of states
  at_state_parts : Holds L (state_parts_start c) (from_state_parts c)
  unfolding state_parts_start
  at_state_parts = holds_at L (1 + length (all_actions c)) (1 + state_count c.tree * 3) (from_state_parts c)
      (omega (arith, all_actions_length c)) (holds_back L 1 (all_actions c) (from_state_parts c) at_actions)

  -- the parts of the transitions of junctions
  at_junction_parts : Holds L (junction_parts_start c) (from_junction_parts c)
  unfolding junction_parts_start
  at_junction_parts =
      holds_at L (state_parts_start c + length (all_state_parts c))
      (state_parts_start c + sum_to (state_parts_size c) (state_count c.tree)) (from_junction_parts c)
      (omega (arith, all_state_parts_length c))
      (holds_back L (state_parts_start c) (all_state_parts c) (from_junction_parts c) at_state_parts)

  -- what firings take
  at_groups : Holds L (groups_start c) (from_groups c)
  unfolding groups_start
  at_groups =
      holds_at L (junction_parts_start c + length (all_junction_parts c))
      (junction_parts_start c + sum_to (junction_parts_size c) (junction_count c)) (from_groups c)
      (omega (arith, all_junction_parts_length c))
      (holds_back L (junction_parts_start c) (all_junction_parts c) (from_groups c) at_junction_parts)

  -- outer and inner lists
  at_lists : Holds L (lists_start c) (from_lists c)
  unfolding lists_start
  at_lists =
      holds_at L (groups_start c + length (all_groups c))
      (groups_start c + sum_to (group_size c) (state_count c.tree)) (from_lists c)
      (omega (arith, all_groups_length c)) (holds_back L (groups_start c) (all_groups c) (from_lists c) at_groups)

  -- processing
  at_processes : Holds L (processes_start c) (all_processes c)
  unfolding processes_start
  at_processes =
      holds_at L (lists_start c + length (all_lists c))
      (lists_start c + sum_to (lists_size c) (state_count c.tree)) (all_processes c)
      (omega (arith, all_lists_length c)) (holds_back L (lists_start c) (all_lists c) (all_processes c) at_lists)

  -- ---- states and junctions

  -- the actions of a state
  pub actions_stand : (s : ℕ) → s < state_count c.tree → Holds L (1 + s * 3) (action_keys_of s)
  actions_stand s lt =
      holds_at L (1 + sum_to (λ i. 3) s) (1 + s * 3) (action_keys_of s) (omega (arith, sum_to_constant 3 s))
      (holds_ascending L action_keys_of (λ i. 3) actions_length (state_count c.tree) 1 s lt
      (holds_front L 1 (all_actions c) (from_state_parts c) at_actions))

  -- the parts of the lists of a state
  state_parts_stand : (s : ℕ) → s < state_count c.tree
      → Holds L (state_parts_start c + sum_to (state_parts_size c) s) (state_parts_keys c s)
  state_parts_stand s lt =
      holds_ascending L (state_parts_keys c) (state_parts_size c) (state_parts_length c) (state_count c.tree)
      (state_parts_start c) s lt
      (holds_front L (state_parts_start c) (all_state_parts c) (from_junction_parts c) at_state_parts)

  -- the parts of a list of a state
  pub parts_stand : (s : ℕ) (kind : ListKind) → s < state_count c.tree
      → Holds L (parts_at c s kind) (parts_keys (list_of c s kind))
  unfolding state_parts_keys
  parts_stand s kind lt = at kind
    where
      outer : List Key
      outer = parts_keys (list_of c s Outer)

      inner : List Key
      inner = parts_keys (list_of c s Inner)

      default : List Key
      default = parts_keys (list_of c s Default)

      a : ℕ
      a = state_parts_start c + sum_to (state_parts_size c) s

      behind_outer : Holds L (a + parts_size (list_of c s Outer)) (inner ++ default)
      behind_outer =
          holds_at L (a + length outer) (a + parts_size (list_of c s Outer)) (inner ++ default)
          (omega (arith, parts_length (list_of c s Outer)))
          (holds_back L a outer (inner ++ default) (state_parts_stand s lt))

      at : (kind : ListKind) → Holds L (parts_at c s kind) (parts_keys (list_of c s kind))
      at Outer = holds_front L a outer (inner ++ default) (state_parts_stand s lt)
      at Inner = holds_front L (a + parts_size (list_of c s Outer)) inner default behind_outer
      at Default =
          holds_at L (a + parts_size (list_of c s Outer) + length inner)
          (a + parts_size (list_of c s Outer) + parts_size (list_of c s Inner)) default
          (omega (arith, parts_length (list_of c s Inner)))
          (holds_back L (a + parts_size (list_of c s Outer)) inner default behind_outer)

  -- the parts of a junction's list
  pub junction_parts_stand : (j : ℕ) → j < junction_count c
      → Holds L (junction_parts_at c j) (parts_keys (junction c j))
  unfolding junction_parts_at
  junction_parts_stand j lt =
      holds_ascending L (junction_parts_keys c) (junction_parts_size c) (junction_parts_length c) (junction_count c)
      (junction_parts_start c) j lt
      (holds_front L (junction_parts_start c) (all_junction_parts c) (from_groups c) at_junction_parts)

  -- what a firing in a state takes
  pub group_stands : (s : ℕ) → s < state_count c.tree → Holds L (group_at c s) (group_keys c s)
  unfolding group_at
  group_stands s lt =
      holds_descending L (group_keys c) (group_size c) (group_length c) (state_count c.tree) (groups_start c) s lt
      (holds_front L (groups_start c) (all_groups c) (from_lists c) at_groups)

  -- the outer and the inner list of a state
  pub lists_stand : (s : ℕ) → s < state_count c.tree → Holds L (lists_at c s) (lists_keys c s)
  unfolding lists_at
  lists_stand s lt =
      holds_descending L (lists_keys c) (lists_size c) (lists_length c) (state_count c.tree) (lists_start c) s lt
      (holds_front L (lists_start c) (all_lists c) (all_processes c) at_lists)

  -- the processing of a state
  pub process_stands : (s : ℕ) → s < state_count c.tree
      → Holds L (processes_start c + (state_count c.tree - suc s)) (process_keys s)
  process_stands s lt =
      holds_at L (processes_start c + sum_between (λ i. 1) (suc s) (state_count c.tree))
      (processes_start c + (state_count c.tree - suc s)) (process_keys s)
      (omega (arith, ones (suc s) (state_count c.tree) lt))
      (holds_descending L process_keys (λ i. 1) process_length (state_count c.tree) (processes_start c) s lt
      at_processes)
