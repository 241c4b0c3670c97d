-- How many procedures there are, by what they are of.
use Rattle.std.proofs.Common.{◌≡◌, ℕ, ◌+◌, ◌*◌, refl, ◌∙◌, arith}
use Rattle.active_config.specs.Tree.{state_count}
use Rattle.checked_chart.specs.declared.parts.ListKind.TheVariants.{Outer, Inner, Default}
use Rattle.checked_chart.specs.Chart.{Chart}
use Rattle.chart_code.specs.Orders.{sum_to}
use Rattle.chart_code.specs.Ends.{below_count}
use Rattle.chart_code.specs.Places.{reached_count, group_size, lists_size, state_parts_start, junction_parts_start}
use Rattle.chart_code.specs.Places.{groups_start, lists_start, processes_start, total, parts_total, below_total}
use Rattle.chart_code.specs.Places.{reached_total}
use Rattle.chart_code.proofs.Sums.{sum_to_plus, sum_to_constant, sum_to_times, sum_to_same}

module _ (c : Chart) where
  abbrev m : ℕ
  m = state_count c.tree

  -- how many states are below a state
  abbrev below : ℕ → ℕ
  below s = below_count c.tree s

  -- how many junctions each of its lists reaches
  abbrev outer : ℕ → ℕ
  outer s = reached_count c s Outer

  abbrev inner : ℕ → ℕ
  inner s = reached_count c s Inner

  abbrev default : ℕ → ℕ
  default s = reached_count c s Default

  -- what firings take
  groups_total : sum_to (group_size c) m ≡ 3 * sum_to below m + m * 7 + sum_to default m
  unfolding group_size
  groups_total =
      sum_to_same (group_size c) (λ s. 3 * below s + 7 + default s) (λ s. refl) m
      ∙ omega (
        arith,
        sum_to_plus (λ s. 3 * below s + 7) default m,
        sum_to_plus (λ s. 3 * below s) (λ s. 7) m,
        sum_to_times 3 below m,
        sum_to_constant 7 m,
      )

  -- outer and inner lists
  lists_total : sum_to (lists_size c) m ≡ m * 2 + sum_to outer m + sum_to inner m
  unfolding lists_size
  lists_total =
      sum_to_same (lists_size c) (λ s. 2 + outer s + inner s) (λ s. refl) m
      ∙ omega (
        arith,
        sum_to_plus (λ s. 2 + outer s) inner m,
        sum_to_plus (λ s. 2) outer m,
        sum_to_constant 2 m,
      )

  -- the junctions of all lists
  reached_sum : reached_total c ≡ sum_to outer m + sum_to inner m + sum_to default m
  unfolding reached_total
  reached_sum = omega (arith, sum_to_plus (λ s. outer s + inner s) default m, sum_to_plus outer inner m)

  -- the sum of all states below states
  below_sum : below_total c ≡ sum_to below m
  unfolding below_total
  below_sum = refl

  -- thirteen for each state, and the parts, the pairs of states and the reached junctions
  pub total_is : total c ≡ 1 + 13 * m + parts_total c + 3 * below_total c + reached_total c
  unfolding total processes_start lists_start groups_start junction_parts_start state_parts_start parts_total
  total_is = omega (arith, groups_total, lists_total, reached_sum, below_sum)
