-- Which numbers are lower: parts stand before what firings take, that before lists, lists before processing, and what a
-- firing in a child takes stands before what one in its parent takes.
use Rattle.std.proofs.Common.{◌≡◌, ℕ, suc, ◌+◌, ◌-◌, ◌*◌, ◌<◌, ◌≤◌, Some, arith}
use Rattle.active_config.specs.Tree.{state_count, parent_of}
use Rattle.checked_chart.specs.declared.parts.ListKind.{ListKind}
use Rattle.checked_chart.specs.declared.parts.ListKind.TheVariants.{Outer, Inner, Default}
use Rattle.checked_chart.specs.Chart.{Chart, list_of, junction, junction_count}
use Rattle.checked_chart.specs.Valid.{IsValid}
use Rattle.checked_chart.proofs.Trees.{child_is}
use Rattle.chart_code.specs.Kinds.{IsPath}
use Rattle.chart_code.specs.Numbers.{Numbers}
use Rattle.chart_code.specs.Orders.{sum_to}
use Rattle.chart_code.specs.Ends.{below_count}
use Rattle.chart_code.specs.Places.{parts_size, reached_count, state_parts_size, junction_parts_size, group_size}
use Rattle.chart_code.specs.Places.{lists_size, state_parts_start, junction_parts_start, groups_start, lists_start}
use Rattle.chart_code.specs.Places.{processes_start, total, parts_at, junction_parts_at, group_at, lists_at, list_at}
use Rattle.chart_code.specs.Places.{numbers}
use Rattle.chart_code.proofs.EndsLemmas.{end_after, path_range}
use Rattle.chart_code.proofs.Sums.{sum_next, sum_to_le, sum_between_is}

module _ (c : Chart) where
  abbrev N : Numbers
  N = numbers c

  abbrev m : ℕ
  m = state_count c.tree

  -- ---- regions

  -- the groups end where the lists start
  group_end : (s : ℕ) → s < m → group_at c s + group_size c s ≤ lists_start c
  unfolding group_at lists_start
  group_end s lt = omega (arith, sum_between_is (group_size c) (suc s) m lt, sum_next (group_size c) s)

  -- the group of a later state stands before that of an earlier one
  group_before : (s x : ℕ) → s < x → x < m → group_at c x + group_size c x ≤ group_at c s
  unfolding group_at
  group_before s x less lt =
      omega (
        arith,
        sum_between_is (group_size c) (suc s) m (omega arith),
        sum_between_is (group_size c) (suc x) m lt,
        sum_next (group_size c) x,
        sum_to_le (group_size c) (suc s) x less,
      )

  -- no group stands before the first one
  pub group_from : (s : ℕ) → groups_start c ≤ group_at c s
  unfolding group_at
  group_from s = omega arith

  -- lists end where processing starts
  lists_end : (s : ℕ) → s < m → lists_at c s + lists_size c s ≤ processes_start c
  unfolding lists_at processes_start
  lists_end s lt = omega (arith, sum_between_is (lists_size c) (suc s) m lt, sum_next (lists_size c) s)

  -- no list stands before the first one
  pub lists_from : (s : ℕ) → lists_start c ≤ lists_at c s
  unfolding lists_at
  lists_from s = omega arith

  -- the groups stand before the lists
  groups_low : groups_start c ≤ lists_start c
  unfolding lists_start
  groups_low = omega arith

  -- the lists stand before processing
  lists_low : lists_start c ≤ processes_start c
  unfolding processes_start
  lists_low = omega arith

  -- processing stands before the total
  processes_low : processes_start c ≤ total c
  unfolding total
  processes_low = omega arith

  -- the actions of a state stand before the groups
  actions_low : (s : ℕ) → s < m → 4 + s * 3 ≤ groups_start c
  unfolding groups_start junction_parts_start state_parts_start
  actions_low s lt = omega arith

  -- the parts of a list of a state stand before the groups
  pub parts_low : (s : ℕ) (kind : ListKind) → s < m
      → parts_at c s kind + parts_size (list_of c s kind) ≤ groups_start c
  unfolding groups_start junction_parts_start state_parts_size
  parts_low s kind lt = at kind
    where
      all : state_parts_start c + sum_to (state_parts_size c) s + state_parts_size c s
          ≤ state_parts_start c + sum_to (state_parts_size c) m
      all = omega (arith, sum_to_le (state_parts_size c) (suc s) m lt, sum_next (state_parts_size c) s)

      at : (kind : ListKind) → parts_at c s kind + parts_size (list_of c s kind) ≤ groups_start c
      at Outer = omega (arith, all)
      at Inner = omega (arith, all)
      at Default = omega (arith, all)

  -- those of a junction's list do
  pub junction_parts_low : (j : ℕ) → j < junction_count c
      → junction_parts_at c j + parts_size (junction c j) ≤ groups_start c
  unfolding groups_start junction_parts_at junction_parts_size
  junction_parts_low j lt =
      omega (
        arith,
        sum_to_le (junction_parts_size c) (suc j) (junction_count c) lt,
        sum_next (junction_parts_size c) j,
      )

  -- a list doesn't stand before what firings take
  pub list_from : (s : ℕ) (kind : ListKind) → s < m → groups_start c ≤ list_at c s kind
  list_from s Outer lt = omega (arith, lists_from s, groups_low)
  list_from s Inner lt = omega (arith, lists_from s, groups_low)
  list_from s Default lt = omega (arith, group_from s)

  -- a list and its junctions stand before the total
  pub list_end : (s : ℕ) (kind : ListKind) → s < m → list_at c s kind + 1 + reached_count c s kind ≤ total c
  unfolding lists_size group_size
  list_end s Outer lt = omega (arith, lists_end s lt, processes_low)
  list_end s Inner lt = omega (arith, lists_end s lt, processes_low)
  list_end s Default lt = omega (arith, group_end s lt, lists_low, processes_low)

  -- ---- states

  -- a state's own processing
  pub process_low : (s : ℕ) → s < m → N.process s < total c
  unfolding numbers total
  process_low s lt = omega arith

  -- its entry action stands before the groups
  pub entry_low : (s : ℕ) → s < m → N.entry s < groups_start c
  unfolding numbers
  entry_low s lt = omega (arith, actions_low s lt)

  -- so does its during action
  pub during_low : (s : ℕ) → s < m → N.during s < groups_start c
  unfolding numbers
  during_low s lt = omega (arith, actions_low s lt)

  -- and its exit action
  pub exit_action_low : (s : ℕ) → s < m → N.exit_action s < groups_start c
  unfolding numbers
  exit_action_low s lt = omega (arith, actions_low s lt)

  -- an outer list stands before processing
  pub outer_low : (s : ℕ) → s < m → N.search s Outer < processes_start c
  unfolding numbers lists_size
  outer_low s lt = omega (arith, lists_end s lt)

  -- so does an inner list
  pub inner_low : (s : ℕ) → s < m → N.search s Inner < processes_start c
  unfolding numbers lists_size
  inner_low s lt = omega (arith, lists_end s lt)

  -- and so do the groups
  pub groups_before : groups_start c ≤ processes_start c
  groups_before = omega (arith, groups_low, lists_low)

  module _ (valid : IsValid c) where
    -- how far the end of a path is after its beginning
    pub near : (s d : ℕ) → IsPath c.tree s d → (s ≤ d) × (d - s ≤ below_count c.tree s)
    near s d path =
        let range = path_range c.tree valid.tree s d path in
        (range.0, omega (arith, range.0, range.1, end_after c.tree valid.tree s path.state))

    -- entry on a path is in the group
    enter_end : (s d : ℕ) → IsPath c.tree s d → N.enter s d < group_at c s + group_size c s
    unfolding numbers group_size
    enter_end s d path = omega (arith, (near s d path).1)

    -- entry stands before the lists
    pub enter_low : (s d : ℕ) → IsPath c.tree s d → N.enter s d < lists_start c
    enter_low s d path = omega (arith, enter_end s d path, group_end s path.state)

    -- and before the total
    pub enter_there : (s d : ℕ) → IsPath c.tree s d → N.enter s d < total c
    enter_there s d path = omega (arith, enter_low s d path, lists_low, processes_low)

    -- the entry of a child stands before the group of its parent
    pub enter_before : (s x d : ℕ) → parent_of c.tree x ≡ Some s → IsPath c.tree x d → N.enter x d < group_at c s
    enter_before s x d up path =
        let child = child_is c.tree valid.tree s x up in
        omega (arith, enter_end x d path, group_before s x child.above child.within)

    -- and so does its exit
    pub exit_before : (s x : ℕ) → parent_of c.tree x ≡ Some s → N.exit x < group_at c s
    unfolding numbers group_size
    exit_before s x up =
        let child = child_is c.tree valid.tree s x up in
        omega (arith, group_before s x child.above child.within)

    -- a firing stands before the lists
    pub take_low : (s d : ℕ) → IsPath c.tree s d → N.take s d < lists_start c
    unfolding numbers group_size
    take_low s d path = omega (arith, (near s d path).1, group_end s path.state)
