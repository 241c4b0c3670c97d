-- The bytes of all procedures of a chart.
use Rattle.std.proofs.Common.{◌≡◌, ℕ, suc, ◌+◌, ◌*◌, ◌<◌, ◌≤◌, arith, mul-le-mul_left, mul-le-mul_right}
use Rattle.active_config.specs.Tree.{state_count}
use Rattle.checked_chart.specs.Chart.{Chart}
use Rattle.checked_chart.specs.Counts.{item_count}
use Rattle.checked_chart.specs.Valid.{IsValid}
use Rattle.chart_code.specs.Keys.{EndMark, all_actions, all_state_parts, all_junction_parts, all_groups, all_lists}
use Rattle.chart_code.specs.Keys.{all_processes, layout}
use Rattle.chart_code.specs.Orders.{sum_to}
use Rattle.chart_code.specs.Places.{below_total}
use Rattle.chart_code.proofs.EndsLemmas.{end_is, end_after}
use Rattle.chart_code.proofs.Sizes.{from_lists, from_groups, from_junction_parts, from_state_parts, from_actions}
use Rattle.chart_code.proofs.Sums.{sum_to_times}
use Rattle.layout_bounds.proofs.SumLemmas.{sum_to_most}
use Rattle.layout_bounds.proofs.ChildCounts.{children_count, below_counts_most}
use Rattle.layout_text.proofs.Procedures.{keys_limit, keys_more, keys_append}
use Rattle.layout_text.proofs.Parts.{all_parts_size}
use Rattle.layout_text.proofs.ListPairs.{pairs_few, reached_few}
use Rattle.layout_text.proofs.Groups.{kids, under, entering, all_groups_size}

-- the square of at most 1,024
square : (s : ℕ) → s ≤ 1024 → s * s ≤ 1048576
square s h = omega (arith, mul-le-mul_left s h)

module _ (c : Chart) (valid : IsValid c) where
  abbrev m : ℕ
  m = state_count c.tree

  -- each state is the child of at most one
  kids_few : sum_to (kids c valid) m + 1 ≡ m
  kids_few = children_count c.tree valid.tree

  -- each state is below at most sixteen
  under_few : below_total c ≤ 16 * m
  unfolding below_total
  under_few = below_counts_most c.tree valid.tree 16 valid.limits.depth

  -- a state and those below it are at most all states
  under_within : (s : ℕ) → s < m → suc (under c valid s) ≤ m
  under_within s lt = omega (arith, end_after c.tree valid.tree s lt, (end_is c.tree valid.tree s lt).within)

  -- the calls that entering makes
  entering_few : sum_to (entering c valid) m ≤ m * m
  entering_few =
      let few : sum_to (kids c valid) m ≤ m = omega (arith, kids_few) in
      omega (
        arith,
        sum_to_most (entering c valid) (λ s. m * kids c valid s) m
            (λ s lt. mul-le-mul_right (kids c valid s) (under_within s lt)),
        sum_to_times m (kids c valid) m,
        mul-le-mul_left m few,
      )

  -- all procedures, by what there is of each kind
  layout_size : keys_limit c (layout c) ≤ 53 + 159 * m + 5012 * item_count c + 2490 * m
      + 440 * sum_to (kids c valid) m + 999 * below_total c + 40 * sum_to (entering c valid) m + 493 * 32768
  unfolding layout
  layout_size =
      omega (
        arith,
        keys_more c EndMark (from_actions c),
        keys_append c (all_actions c) (from_state_parts c),
        keys_append c (all_state_parts c) (from_junction_parts c),
        keys_append c (all_junction_parts c) (from_groups c),
        keys_append c (all_groups c) (from_lists c),
        keys_append c (all_lists c) (all_processes c),
        all_parts_size c valid,
        all_groups_size c valid,
        pairs_few c valid,
        reached_few c valid,
      )

  -- in numbers
  pub procedures_size : keys_limit c (layout c) ≤ 200000000
  procedures_size =
      omega (
        arith,
        layout_size,
        kids_few,
        under_few,
        entering_few,
        square m valid.limits.states,
        valid.limits.states,
        valid.limits.items,
      )
