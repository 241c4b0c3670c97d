-- The bytes of what firings take, of lists and of processing.
use Rattle.std.proofs.Common.{◌≡◌, ℕ, zero, suc, ◌+◌, ◌*◌, ◌≤◌, List, [], ◌∷◌, length, map, arith}
use Rattle.active_config.specs.Tree.{state_count, comp_of, children_of}
use Rattle.checked_chart.specs.declared.parts.ListKind.{ListKind}
use Rattle.checked_chart.specs.declared.parts.ListKind.TheVariants.{Outer, Inner, Default}
use Rattle.checked_chart.specs.Chart.{Chart, list_of, junction}
use Rattle.checked_chart.specs.Valid.{IsValid}
use Rattle.chart_code.specs.ListProcedures.{search_of}
use Rattle.chart_code.specs.Ends.{below_count}
use Rattle.chart_code.specs.Keys.{Leave, Exit, Arrive, ListOf, JunctionOf, Defaults, Take, Enter}
use Rattle.chart_code.specs.Keys.{process_keys, search_keys, lists_keys, group_keys, all_groups, all_lists}
use Rattle.chart_code.specs.Keys.{all_processes}
use Rattle.chart_code.specs.Orders.{sum_to, span}
use Rattle.chart_code.specs.Places.{numbers, list_numbers, reached_count, reached_total, below_total}
use Rattle.chart_code.specs.ReachedJunctions.{reached, sum_over}
use Rattle.chart_code.proofs.Sizes.{group_enters, group_takes, group_defaults, group_search, group_arrives}
use Rattle.layout_text.proofs.Procedures.{keys_limit, keys_more, keys_append, keys_descending, keys_span}
use Rattle.layout_text.proofs.StateBodies.{leave_lines, enter_lines, defaults_lines, arrive_lines, process_lines}
use Rattle.layout_text.proofs.ListBodies.{list_lines, junction_lines}
use Rattle.layout_text.proofs.ListPairs.{at_junction, pairs_of, state_pairs}

-- a product split
split : (u k : ℕ) → suc u * (573 + 40 * k) ≡ 573 * suc u + 40 * (suc u * k)
split u k = grind arith

module _ (c : Chart) (valid : IsValid c) where
  -- how many children a state has, and how many states are below it
  abbrev pub kids : ℕ → ℕ
  kids s = length (children_of c.tree s)

  abbrev pub under : ℕ → ℕ
  under s = below_count c.tree s

  -- ---- lists

  -- the junctions that are reached from a list
  junctions_size : (s : ℕ) (kind : ListKind) (js : List ℕ)
      → keys_limit c (map (λ j. JunctionOf s kind j) js) ≤ 133 * length js + 360 * sum_over (at_junction c valid) js
  unfolding keys_limit sum_over
  junctions_size s kind [] = omega arith
  junctions_size s kind (j ∷ js) =
      omega (
        arith,
        junction_lines (search_of (numbers c) (list_numbers c) c.tree s kind) (junction c j)
            ((list_numbers c).junction_parts j),
        junctions_size s kind js,
      )

  -- a list with them
  abbrev search_share : ℕ → ListKind → ℕ
  search_share s kind = 93 + 360 * pairs_of c valid (list_of c s kind) + 133 * reached_count c s kind

  search_size : (s : ℕ) (kind : ListKind) → keys_limit c (search_keys c s kind) ≤ search_share s kind
  unfolding search_keys pairs_of reached_count
  search_size s kind =
      omega (
        arith,
        keys_more c (ListOf s kind) (map (λ j. JunctionOf s kind j) (reached c (list_of c s kind))),
        list_lines (search_of (numbers c) (list_numbers c) c.tree s kind) (list_of c s kind)
            ((list_numbers c).parts s kind),
        junctions_size s kind (reached c (list_of c s kind)),
      )

  -- the outer and the inner list of a state
  abbrev lists_share : ℕ → ℕ
  lists_share s = search_share s Outer + search_share s Inner

  lists_size : (s : ℕ) → keys_limit c (lists_keys c s) ≤ lists_share s
  unfolding lists_keys
  lists_size s =
      omega (
        arith,
        keys_append c (search_keys c s Outer) (search_keys c s Inner),
        search_size s Outer,
        search_size s Inner,
      )

  -- ---- what firings take

  -- beside the default list, and beside the calls of children that entering makes
  abbrev group_share : ℕ → ℕ
  group_share s = 1638 + 240 * kids s + 999 * under s + 40 * (suc (under s) * kids s) + search_share s Default

  group_size : (s : ℕ) → keys_limit c (group_keys c s) ≤ group_share s
  unfolding group_keys
  group_size s =
      let u = under s in
      omega (
        arith,
        keys_more c (Leave s) (Exit s ∷ group_arrives c s),
        keys_more c (Exit s) (group_arrives c s),
        keys_append c (span (Arrive s) (suc s) u) (group_search c s),
        keys_append c (search_keys c s Default) (group_defaults c s),
        keys_more c (Defaults s) (Arrive s s ∷ group_takes c s),
        keys_more c (Arrive s s) (group_takes c s),
        keys_append c (span (Take s) s (suc u)) (group_enters c s),
        leave_lines c valid (numbers c) s (comp_of c.tree s),
        keys_span c (Arrive s) 293 (suc s) u (λ d. omega (arith, arrive_lines c valid (numbers c) s d)),
        search_size s Default,
        defaults_lines c valid (numbers c) s,
        arrive_lines c valid (numbers c) s s,
        keys_span c (Take s) 133 s (suc u) (λ d. omega arith),
        keys_span c (Enter s) (573 + 40 * kids s) s (suc u) (λ d. omega (arith, enter_lines c valid (numbers c) s d)),
        split u (kids s),
      )

  -- ---- processing

  abbrev process_share : ℕ → ℕ
  process_share s = 573 + 200 * kids s

  process_size : (s : ℕ) → keys_limit c (process_keys s) ≤ process_share s
  unfolding keys_limit
  process_size s = omega (arith, process_lines c valid (numbers c) s)

  -- ---- all

  -- the calls that entering makes
  abbrev pub entering : ℕ → ℕ
  entering s = suc (under s) * kids s

  -- the junctions that the lists of a state reach
  abbrev reach : ℕ → ℕ
  reach s = reached_count c s Outer + reached_count c s Inner + reached_count c s Default

  -- for the first states
  shares_sum : (n : ℕ) → sum_to group_share n + sum_to lists_share n + sum_to process_share n
      ≡ 2490 * n + 440 * sum_to kids n + 999 * sum_to under n + 40 * sum_to entering n
      + 360 * sum_to (state_pairs c valid) n + 133 * sum_to reach n
  unfolding sum_to
  shares_sum zero = omega arith
  shares_sum (suc n) = omega (arith, shares_sum n)

  -- for all states
  pub all_groups_size : keys_limit c (all_groups c) + keys_limit c (all_lists c) + keys_limit c (all_processes c)
      ≤ 2490 * state_count c.tree + 440 * sum_to kids (state_count c.tree) + 999 * below_total c
      + 40 * sum_to entering (state_count c.tree) + 360 * sum_to (state_pairs c valid) (state_count c.tree)
      + 133 * reached_total c
  unfolding below_total reached_total
  all_groups_size =
      omega (
        arith,
        keys_descending c (group_keys c) group_share (state_count c.tree) (λ s lt. group_size s),
        keys_descending c (lists_keys c) lists_share (state_count c.tree) (λ s lt. lists_size s),
        keys_descending c process_keys process_share (state_count c.tree) (λ s lt. process_size s),
        shares_sum (state_count c.tree),
      )
