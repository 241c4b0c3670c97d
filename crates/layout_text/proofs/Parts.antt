-- The bytes of the actions of states and of the parts of transitions, by how many transitions and statements there are.
use Rattle.std.proofs.Common.{◌≡◌, ℕ, zero, suc, ◌+◌, ◌*◌, ◌≤◌, List, [], ◌∷◌, ◌++◌, length, sum_by, Option, Some}
use Rattle.std.proofs.Common.{None, refl, arith}
use Rattle.std.proofs.lemmas.List.Sums.{sum_by-cons}
use Rattle.active_config.specs.Tree.{state_count}
use Rattle.actions.specs.Exprs.{Expr, Stmt}
use Rattle.checked_chart.specs.declared.parts.ListKind.TheVariants.{Outer, Inner, Default}
use Rattle.checked_chart.specs.Chart.{Chart, Node, Trans, no_node, node, list_of, junction, junction_count}
use Rattle.checked_chart.specs.Counts.{trans_statements, node_transitions, node_statements}
use Rattle.checked_chart.specs.Counts.{item_count}
use Rattle.checked_chart.specs.Valid.{IsValid}
use Rattle.code_language.specs.Instrs.{OnHome, BareHome}
use Rattle.chart_code.specs.Keys.{guard_keys}
use Rattle.chart_code.specs.Keys.{condition_keys, action_keys, trans_keys, parts_keys, action_keys_of}
use Rattle.chart_code.specs.Keys.{state_parts_keys}
use Rattle.chart_code.specs.Keys.{junction_parts_keys, all_actions, all_state_parts, all_junction_parts}
use Rattle.chart_code.specs.Orders.{sum_to}
use Rattle.chart_code.specs.Places.{numbers}
use Rattle.layout_bounds.proofs.ListSums.{sum_listed}
use Rattle.layout_text.proofs.Procedures.{keys_limit, keys_append, keys_ascending}
use Rattle.layout_text.proofs.StateBodies.{block_lines}

module _ (c : Chart) (valid : IsValid c) where
  -- nothing
  no_keys : keys_limit c [] ≡ 0
  unfolding keys_limit
  no_keys = refl {a = 0}

  -- ---- the parts of transitions

  -- a guard
  guard_size : (o : Option Expr) → keys_limit c (guard_keys o) ≤ 2599
  unfolding keys_limit
  guard_size None = omega arith
  guard_size (Some e) = omega arith

  -- a condition action, twice
  condition_size : (ss : List Stmt) → keys_limit c (condition_keys ss) ≤ 106 + 5012 * length ss
  unfolding keys_limit
  condition_size [] = omega arith
  condition_size (s ∷ ss) =
      omega (
        arith,
        block_lines c valid (numbers c) OnHome (omega arith) (s ∷ ss),
        block_lines c valid (numbers c) BareHome (omega arith) (s ∷ ss),
      )

  -- a transition action
  action_size : (ss : List Stmt) → keys_limit c (action_keys ss) ≤ 53 + 2506 * length ss
  unfolding keys_limit
  action_size [] = omega arith
  action_size (s ∷ ss) = omega (arith, block_lines c valid (numbers c) BareHome (omega arith) (s ∷ ss))

  -- the parts of a transition
  trans_size : (t : Trans) → keys_limit c (trans_keys t) ≤ 5012 + 5012 * trans_statements t
  trans_size t =
      omega (
        arith,
        keys_append c (guard_keys t.guard) (condition_keys t.condition ++ action_keys t.action),
        keys_append c (condition_keys t.condition) (action_keys t.action),
        guard_size t.guard,
        condition_size t.condition,
        action_size t.action,
      )

  -- those of a list
  parts_size : (ts : List Trans) → keys_limit c (parts_keys ts) ≤ 5012 * length ts + 5012 * sum_by trans_statements ts
  unfolding parts_keys
  parts_size [] = omega (arith, no_keys)
  parts_size (t ∷ ts) =
      omega (
        arith,
        keys_append c (trans_keys t) (parts_keys ts),
        trans_size t,
        parts_size ts,
        sum_by-cons trans_statements t ts,
      )

  -- ---- states

  -- the statements of the actions of a state
  abbrev own : ℕ → ℕ
  own s = length (node c s).entry + length (node c s).during + length (node c s).exit

  -- the statements of its transitions
  abbrev of_lists : ℕ → ℕ
  of_lists s =
      sum_by trans_statements (node c s).outer + sum_by trans_statements (node c s).inner
      + sum_by trans_statements (node c s).default

  -- the actions of a state
  abbrev actions_share : ℕ → ℕ
  actions_share s = 159 + 2506 * own s

  actions_size : (s : ℕ) → keys_limit c (action_keys_of s) ≤ actions_share s
  unfolding keys_limit
  actions_size s =
      omega (
        arith,
        block_lines c valid (numbers c) BareHome (omega arith) (node c s).entry,
        block_lines c valid (numbers c) OnHome (omega arith) (node c s).during,
        block_lines c valid (numbers c) BareHome (omega arith) (node c s).exit,
      )

  -- the parts of its lists
  abbrev parts_share : ℕ → ℕ
  parts_share s = 5012 * node_transitions (node c s) + 5012 * of_lists s

  state_parts_size : (s : ℕ) → keys_limit c (state_parts_keys c s) ≤ parts_share s
  unfolding state_parts_keys
  state_parts_size s =
      let outer = parts_keys (list_of c s Outer) in
      let inner = parts_keys (list_of c s Inner) in
      let default = parts_keys (list_of c s Default) in
      omega (
        arith,
        keys_append c outer (inner ++ default),
        keys_append c inner default,
        parts_size (list_of c s Outer),
        parts_size (list_of c s Inner),
        parts_size (list_of c s Default),
      )

  -- both, for the first states
  shares_sum : (n : ℕ) → sum_to actions_share n + sum_to parts_share n
      ≤ 159 * n + 5012 * sum_to (λ s. node_transitions (node c s)) n + 5012 * sum_to (λ s. node_statements (node c s)) n
  unfolding sum_to
  shares_sum zero = omega arith
  shares_sum (suc n) = omega (arith, shares_sum n)

  -- ---- junctions

  -- the parts of a junction's list
  abbrev junction_share : ℕ → ℕ
  junction_share j = 5012 * length (junction c j) + 5012 * sum_by trans_statements (junction c j)

  -- those of the first junctions
  junctions_sum : (n : ℕ) → sum_to junction_share n
      ≡ 5012 * sum_to (λ j. length (junction c j)) n + 5012 * sum_to (λ j. sum_by trans_statements (junction c j)) n
  unfolding sum_to
  junctions_sum zero = omega arith
  junctions_sum (suc n) = omega (arith, junctions_sum n)

  -- ---- all

  -- a sum over the nodes
  nodes_sum : (f : Node → ℕ) → sum_to (λ s. f (node c s)) (state_count c.tree) ≡ sum_by f c.nodes
  unfolding node
  nodes_sum f = sum_listed f no_node c.nodes (state_count c.tree) valid.nodes_sized

  -- a sum over the junctions
  lists_sum : (f : List Trans → ℕ) → sum_to (λ j. f (junction c j)) (junction_count c) ≡ sum_by f c.junctions
  unfolding junction junction_count
  lists_sum f = sum_listed f [] c.junctions (junction_count c) (refl {a = junction_count c})

  -- the actions and the parts of all states and junctions
  pub all_parts_size :
      keys_limit c (all_actions c) + keys_limit c (all_state_parts c) + keys_limit c (all_junction_parts c)
      ≤ 159 * state_count c.tree + 5012 * item_count c
  all_parts_size =
      omega (
        arith,
        keys_ascending c action_keys_of actions_share (state_count c.tree) (λ s lt. actions_size s),
        keys_ascending c (state_parts_keys c) parts_share (state_count c.tree) (λ s lt. state_parts_size s),
        keys_ascending c (junction_parts_keys c) junction_share (junction_count c) (λ j lt. parts_size (junction c j)),
        shares_sum (state_count c.tree),
        junctions_sum (junction_count c),
        nodes_sum node_transitions,
        nodes_sum node_statements,
        lists_sum (λ (list : List Trans). length list),
        lists_sum (sum_by trans_statements),
      )
