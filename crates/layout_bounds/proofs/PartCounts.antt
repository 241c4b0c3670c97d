-- How many procedures the parts of transitions have, by transitions and by actions that aren't empty.
use Rattle.std.proofs.Common.{◌≡◌, ℕ, ◌+◌, ◌*◌, ◌≤◌, List, [], ◌∷◌, length, Option, Some, None, refl, ◌∙◌, arith}
use Rattle.std.specs.Prelude.{sum_by}
use Rattle.std.proofs.lemmas.List.Sums.{sum_by-cons}
use Rattle.active_config.specs.Tree.{state_count}
use Rattle.actions.specs.Exprs.{Expr, Stmt}
use Rattle.checked_chart.specs.Chart.{Chart, Node, Trans, node, no_node, junction, junction_count}
use Rattle.checked_chart.specs.Counts.{node_transitions, transition_count}
use Rattle.checked_chart.specs.Valid.{IsValid}
use Rattle.chart_code.specs.Orders.{sum_to}
use Rattle.chart_code.specs.Places.{guard_count, block_count, trans_size, parts_size, state_parts_size}
use Rattle.chart_code.specs.Places.{junction_parts_size, parts_total}
use Rattle.chart_code.proofs.Sums.{sum_to_same}
use Rattle.layout_bounds.specs.FilledBlocks.{filled_of_trans, filled_of_list, filled_of_node, filled_blocks}
use Rattle.layout_bounds.proofs.ListSums.{sum_listed, sum_by_fourfold, sum_by_twice}

-- at most one procedure for a guard
guard_few : (o : Option Expr) → guard_count o ≤ 1
guard_few None = omega arith
guard_few (Some e) = omega arith

-- at most one for an action
block_few : (ss : List Stmt) → block_count ss ≤ 1
block_few [] = omega arith
block_few (s ∷ ss) = omega arith

-- those of a transition
trans_few : (t : Trans) → trans_size t ≤ 1 + 2 * filled_of_trans t
unfolding trans_size
trans_few t = omega (arith, guard_few t.guard)

-- those of a list
list_few : (ts : List Trans) → parts_size ts ≤ length ts + 2 * filled_of_list ts
unfolding parts_size
list_few [] = omega arith
list_few (t ∷ ts) = omega (arith, trans_few t, list_few ts, sum_by-cons filled_of_trans t ts)

-- a transition has at most four
list_fourfold : (ts : List Trans) → parts_size ts ≤ 4 * length ts
unfolding parts_size trans_size
list_fourfold [] = omega arith
list_fourfold (t ∷ ts) =
    omega (arith, guard_few t.guard, block_few t.condition, block_few t.action, list_fourfold ts)

-- those of the lists of a state
abbrev size_of_node : Node → ℕ
size_of_node n = parts_size n.outer + parts_size n.inner + parts_size n.default

-- by its transitions and its actions
node_few : (n : Node) → size_of_node n ≤ node_transitions n + 2 * filled_of_node n
node_few n = omega (arith, list_few n.outer, list_few n.inner, list_few n.default)

-- by its transitions alone
node_fourfold : (n : Node) → size_of_node n ≤ 4 * node_transitions n
node_fourfold n = omega (arith, list_fourfold n.outer, list_fourfold n.inner, list_fourfold n.default)

module _ (c : Chart) (valid : IsValid c) where
  -- those of all states
  states_sum : sum_to (state_parts_size c) (state_count c.tree) ≡ sum_by size_of_node c.nodes
  unfolding state_parts_size node
  states_sum =
      sum_to_same (state_parts_size c) (λ s. size_of_node (node c s)) (λ s. refl) (state_count c.tree)
      ∙ sum_listed size_of_node no_node c.nodes (state_count c.tree) valid.nodes_sized

  -- those of all junctions
  junctions_sum : sum_to (junction_parts_size c) (junction_count c) ≡ sum_by parts_size c.junctions
  unfolding junction_parts_size junction junction_count
  junctions_sum =
      sum_to_same (junction_parts_size c) (λ j. parts_size (junction c j)) (λ j. refl) (junction_count c)
      ∙ sum_listed parts_size [] c.junctions (junction_count c) refl

  -- one for each transition, and two for each action that isn't empty
  pub parts_few : parts_total c ≤ transition_count c + 2 * filled_blocks c
  unfolding parts_total filled_blocks
  parts_few =
      omega (
        arith,
        states_sum,
        junctions_sum,
        sum_by_twice node_transitions filled_of_node size_of_node node_few c.nodes,
        sum_by_twice (λ (list : List Trans). length list) filled_of_list parts_size list_few c.junctions,
      )

  -- at most four for each transition
  pub parts_fourfold : parts_total c ≤ 4 * transition_count c
  unfolding parts_total
  parts_fourfold =
      omega (
        arith,
        states_sum,
        junctions_sum,
        sum_by_fourfold node_transitions size_of_node node_fourfold c.nodes,
        sum_by_fourfold (λ (list : List Trans). length list) parts_size list_fourfold c.junctions,
      )
