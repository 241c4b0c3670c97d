-- The works of actions, tests and states by the counts of the chart.
use Rattle.std.proofs.Common.{◌≡◌, ℕ, zero, suc, ◌+◌, ◌*◌, ◌≤◌, List, [], ◌∷◌, length, refl, arith}
use Rattle.std.proofs.Common.{suc-mul, mul-le-mul_left}
use Rattle.std.specs.List.{AllByRecursion, sum_by}
use Rattle.std.proofs.lemmas.List.Sums.{sum_by-cons}
use Rattle.active_config.specs.Tree.{state_count, children_of}
use Rattle.checked_chart.specs.declared.parts.ListKind.TheVariants.{Outer, Inner, Default}
use Rattle.checked_chart.specs.Chart.{Chart, Trans, node, no_node, list_of, junction}
use Rattle.checked_chart.specs.Counts.{trans_statements, node_transitions, node_statements}
use Rattle.checked_chart.specs.Counts.{statement_count, item_count}
use Rattle.checked_chart.specs.Valid.{IsValid}
use Rattle.chart_code.specs.Orders.{sum_to}
use Rattle.layout_bounds.specs.WorkBounds.{test_work, tests_of, exit_share, enter_share, process_share, firing_work}
use Rattle.layout_bounds.proofs.ListSums.{sum_listed}
use Rattle.layout_bounds.proofs.ListTerms.{at_most_sum}
use Rattle.layout_bounds.proofs.ChildCounts.{children_count}
use Rattle.layout_bounds.proofs.WorkShares.{test_is, firing_is, exit_share_is, enter_share_is, process_share_is}

-- ---- products

-- a number that is taken out of a product
times_out : (s i k : ℕ) → s * (k * i) ≡ k * (s * i)
times_out s i k = grind arith

-- two firings
twice : (f i : ℕ) → f ≤ 39 * suc i → 2 * f ≤ 78 * suc i
twice f i h = omega (arith, h)

-- two firings for each state
pub firings_le : (s f i : ℕ) → f ≤ 39 * suc i → s * (2 * f) ≤ 78 * (s * suc i)
firings_le s f i h = omega (arith, mul-le-mul_left s (twice f i h), times_out s (suc i) 78)

-- what is asked for
pub product_is : (s i : ℕ) → 400 * suc s * suc i ≡ 400 * (s * suc i) + 400 * suc i
product_is s i = grind arith

-- ---- lists

-- the tests of a list by its transitions and their statements
pub tests_counted : (ts : List Trans) → tests_of ts ≤ 11 * length ts + 3 * sum_by trans_statements ts
tests_counted [] = omega arith
tests_counted (t ∷ ts) =
    omega (arith, sum_by-cons test_work t ts, sum_by-cons trans_statements t ts, test_is t, tests_counted ts)

-- those of several lists
pub all_tests_counted : (lists : List (List Trans))
    → sum_by tests_of lists
    ≤ 11 * sum_by (λ (list : List Trans). length list) lists + 3 * sum_by (sum_by trans_statements) lists
all_tests_counted [] = omega arith
all_tests_counted (l ∷ lists) =
    omega (
      arith,
      sum_by-cons tests_of l lists,
      sum_by-cons (λ (list : List Trans). length list) l lists,
      sum_by-cons (sum_by trans_statements) l lists,
      tests_counted l,
      all_tests_counted lists,
    )

-- a part of a sum is within what the whole is within
pub each_statement : (m : ℕ) (ts : List Trans) → sum_by trans_statements ts ≤ m
    → AllByRecursion (λ (t : Trans). trans_statements t ≤ m) ts
each_statement m [] h = tt
each_statement m (t ∷ ts) h = (
  omega (arith, h, sum_by-cons trans_statements t ts),
  each_statement m ts (omega (arith, h, sum_by-cons trans_statements t ts)),
)

module _ (c : Chart) where
  -- ---- states

  -- the transitions and the statements of a state
  abbrev transitions : ℕ → ℕ
  transitions s = node_transitions (node c s)

  abbrev statements : ℕ → ℕ
  statements s = node_statements (node c s)

  abbrev children : ℕ → ℕ
  children s = length (children_of c.tree s)

  -- the statements of a state are among those of the chart
  pub state_statements : (s : ℕ) → statements s ≤ statement_count c
  unfolding node no_node
  state_statements s = omega (arith, at_most_sum node_statements c.nodes s no_node refl)

  -- those of a junction are
  pub junction_statements : (j : ℕ) → sum_by trans_statements (junction c j) ≤ statement_count c
  unfolding junction
  junction_statements j = omega (arith, at_most_sum (sum_by trans_statements) c.junctions j [] refl)

  -- the tests of a junction are among those of all
  pub junction_tests : (j : ℕ) → tests_of (junction c j) ≤ sum_by tests_of c.junctions
  unfolding junction
  junction_tests j = at_most_sum tests_of c.junctions j [] refl

  -- ---- the shares of the first states

  -- in leaving and entering
  moves : (n : ℕ) → sum_to (exit_share c) n + sum_to (enter_share c) n
      ≤ 38 * n + sum_to children n + 11 * sum_to transitions n + 3 * sum_to statements n
  unfolding sum_to
  moves zero = omega arith
  moves (suc n) =
      omega (arith, moves n, exit_share_is c n, enter_share_is c n, tests_counted (list_of c n Default))

  -- in processing
  processing : (n : ℕ) → sum_to (process_share c) n
      ≤ 20 * n + 11 * sum_to transitions n + 3 * sum_to statements n + n * (2 * firing_work c)
  unfolding sum_to
  processing zero = omega arith
  processing (suc n) =
      omega (
        arith,
        processing n,
        process_share_is c n,
        tests_counted (list_of c n Outer),
        tests_counted (list_of c n Inner),
        suc-mul n (2 * firing_work c),
      )

  module _ (valid : IsValid c) where
    -- ---- all states

    -- the transitions of all states
    transitions_sum : sum_to transitions (state_count c.tree) ≡ sum_by node_transitions c.nodes
    unfolding node
    transitions_sum = sum_listed node_transitions no_node c.nodes (state_count c.tree) valid.nodes_sized

    -- the statements of all states
    statements_sum : sum_to statements (state_count c.tree) ≡ sum_by node_statements c.nodes
    unfolding node
    statements_sum = sum_listed node_statements no_node c.nodes (state_count c.tree) valid.nodes_sized

    -- a firing takes at most 39 for each item
    pub firing_counted : firing_work c ≤ 39 * suc (item_count c)
    firing_counted =
        omega (
          arith,
          firing_is c,
          moves (state_count c.tree),
          transitions_sum,
          statements_sum,
          children_count c.tree valid.tree,
        )

    -- processing takes at most 20 for each item, and twice as much as a firing for each state
    pub processing_counted : sum_to (process_share c) (state_count c.tree)
        ≤ 20 * item_count c + state_count c.tree * (2 * firing_work c)
    processing_counted = omega (arith, processing (state_count c.tree), transitions_sum, statements_sum)

    -- the tests of junctions take at most 11 for each item
    pub tests_total : sum_by tests_of c.junctions ≤ 11 * item_count c
    tests_total = omega (arith, all_tests_counted c.junctions)
