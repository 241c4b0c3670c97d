-- What is counted with a state: its share, and those of the states below it.
use Rattle.std.proofs.Common.{◌≡◌, ℕ, ◌+◌, ◌*◌, ◌<◌, ◌≤◌, length, refl, arith}
use Rattle.active_config.specs.Tree.{state_count, children_of}
use Rattle.checked_chart.specs.declared.parts.ListKind.TheVariants.{Outer, Inner, Default}
use Rattle.checked_chart.specs.Chart.{Chart, Trans, node, list_of}
use Rattle.checked_chart.specs.Valid.{IsValid}
use Rattle.chart_code.specs.Orders.{sum_to}
use Rattle.layout_bounds.specs.TreeSums.{sum_below}
use Rattle.layout_bounds.specs.WorkBounds.{test_work, tests_of, exit_share, enter_share, process_share, firing_work}
use Rattle.layout_bounds.specs.WorkBounds.{exits_below, enters_below, processes_below, defaults_work}
use Rattle.layout_bounds.proofs.SumsBelow.{sum_below_splits, sum_below_whole}

-- a transition of a list
pub test_is : (t : Trans) → test_work t ≡ 11 + 3 * length t.condition
unfolding test_work
test_is t = omega arith

module _ (c : Chart) where
  -- entry by default
  pub defaults_is : (s : ℕ)
      → defaults_work c s
      ≡ 11 + length (children_of c.tree s) + tests_of (list_of c s Default) + enters_below c s
  unfolding defaults_work
  defaults_is s = refl

  -- a firing
  pub firing_is : firing_work c
      ≡ 1 + sum_to (exit_share c) (state_count c.tree) + sum_to (enter_share c) (state_count c.tree)
  unfolding firing_work
  firing_is = refl

  -- the share of a state in leaving it
  pub exit_share_is : (s : ℕ) → exit_share c s ≡ 14 + 3 * length (node c s).exit
  unfolding exit_share
  exit_share_is s = refl

  -- that in entering it
  pub enter_share_is : (s : ℕ)
      → enter_share c s
      ≡ 24 + 3 * length (node c s).entry + length (children_of c.tree s) + tests_of (list_of c s Default)
  unfolding enter_share
  enter_share_is s = refl

  -- and that in processing it
  pub process_share_is : (s : ℕ)
      → process_share c s
      ≡ 20 + 3 * length (node c s).during + tests_of (list_of c s Outer) + tests_of (list_of c s Inner)
      + 2 * firing_work c
  unfolding process_share
  process_share_is s = refl

  module _ (valid : IsValid c) (s : ℕ) (lt : s < state_count c.tree) where
    -- a state is left: itself, and all below it
    pub exits_split : sum_below c.tree (exit_share c) s ≡ exit_share c s + exits_below c s
    exits_split = sum_below_splits c.tree valid.tree (exit_share c) s lt

    -- it is entered
    pub enters_split : sum_below c.tree (enter_share c) s ≡ enter_share c s + enters_below c s
    enters_split = sum_below_splits c.tree valid.tree (enter_share c) s lt

    -- it is processed
    pub processes_split : sum_below c.tree (process_share c) s ≡ process_share c s + processes_below c s
    processes_split = sum_below_splits c.tree valid.tree (process_share c) s lt

    -- no more is left than all states
    pub exits_most : sum_below c.tree (exit_share c) s ≤ sum_to (exit_share c) (state_count c.tree)
    exits_most = sum_below_whole c.tree valid.tree (exit_share c) s lt

    -- no more is entered
    pub enters_most : sum_below c.tree (enter_share c) s ≤ sum_to (enter_share c) (state_count c.tree)
    enters_most = sum_below_whole c.tree valid.tree (enter_share c) s lt

    -- no more is processed
    pub processes_most : sum_below c.tree (process_share c) s ≤ sum_to (process_share c) (state_count c.tree)
    processes_most = sum_below_whole c.tree valid.tree (process_share c) s lt
