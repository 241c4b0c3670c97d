-- How much work each procedure of a chart's code is at most, by what it is of.
use Rattle.std.specs.Prelude.{ℕ, ◌+◌, ◌*◌, ◌==◌, List, length, if◌then◌else◌}
use Rattle.std.specs.List.{sum_by}
use Rattle.active_config.specs.Tree.{state_count, children_of}
use Rattle.actions.specs.Exprs.{Stmt}
use Rattle.checked_chart.specs.declared.parts.ListKind.{ListKind}
use Rattle.checked_chart.specs.declared.parts.ListKind.TheVariants.{Outer, Inner, Default}
use Rattle.checked_chart.specs.Chart.{Chart, Trans, node, list_of, junction}
use Rattle.chart_code.specs.Keys.{Key, EndMark, Entry, During, ExitAction, Guard, ConditionOn, ConditionBare, Action}
use Rattle.chart_code.specs.Keys.{Leave, Exit, Arrive, ListOf, JunctionOf, Defaults, Take, Enter, Process}
use Rattle.chart_code.specs.Orders.{sum_to}
use Rattle.layout_bounds.specs.TreeSums.{sum_below}

-- ---- actions and tests

-- a block has three instructions for each statement, and a return
abbrev pub block_work : List Stmt → ℕ
block_work ss = 3 * length ss + 1

-- a transition has eight instructions in its list, and tests its guard and runs its condition action
unfoldable pub test_work : Trans → ℕ
test_work t = 8 + 2 + block_work t.condition

-- the transitions of a list
abbrev pub tests_of : List Trans → ℕ
tests_of ts = sum_by test_work ts

module _ (c : Chart) where
  -- ---- leaving and entering

  -- the share of one state in leaving it, with three instructions of its parent
  unfoldable pub exit_share : ℕ → ℕ
  exit_share s = 14 + 3 * length (node c s).exit

  -- the share of one state in entering it, with an instruction of its parent, and with one for each child, which it may
  -- enter again by history
  unfoldable pub enter_share : ℕ → ℕ
  enter_share s =
      24 + 3 * length (node c s).entry + length (children_of c.tree s) + tests_of (list_of c s Default)

  -- the children of a state are left, with all below them
  abbrev pub exits_below : ℕ → ℕ
  exits_below s = sum_by (sum_below c.tree exit_share) (children_of c.tree s)

  -- they are entered
  abbrev pub enters_below : ℕ → ℕ
  enters_below s = sum_by (sum_below c.tree enter_share) (children_of c.tree s)

  -- a state is entered by default
  unfoldable pub defaults_work : ℕ → ℕ
  defaults_work s = 11 + length (children_of c.tree s) + tests_of (list_of c s Default) + enters_below s

  -- the most that a firing takes: all states are left and entered
  unfoldable pub firing_work : ℕ
  firing_work = 1 + sum_to exit_share (state_count c.tree) + sum_to enter_share (state_count c.tree)

  -- what a list leads to: a firing takes all of it, a default list arrives below its state
  abbrev pub found_work : ℕ → ListKind → ℕ
  found_work s Outer = firing_work
  found_work s Inner = firing_work
  found_work s Default = 6 + enters_below s

  -- ---- processing

  -- the share of one state in processing it, with four instructions of its parent: its lists, each with a firing, and
  -- its during action
  unfoldable pub process_share : ℕ → ℕ
  process_share s =
      20 + 3 * length (node c s).during + tests_of (list_of c s Outer) + tests_of (list_of c s Inner) + 2 * firing_work

  -- the children of a state are processed, with all below them
  abbrev pub processes_below : ℕ → ℕ
  processes_below s = sum_by (sum_below c.tree process_share) (children_of c.tree s)

  -- ---- all procedures

  -- how much work a procedure is at most
  abbrev pub work_bound : Key → ℕ
  work_bound EndMark = 1
  work_bound (Entry s) = block_work (node c s).entry
  work_bound (During s) = block_work (node c s).during
  work_bound (ExitAction s) = block_work (node c s).exit
  work_bound (Guard e) = 2
  work_bound (ConditionOn ss) = block_work ss
  work_bound (ConditionBare ss) = block_work ss
  work_bound (Action ss) = block_work ss
  work_bound (Leave s) = 1 + exits_below s
  work_bound (Exit s) = 11 + 3 * length (node c s).exit + exits_below s
  work_bound (Arrive s d) = 6 + (if s == d then defaults_work s else enters_below s)
  work_bound (ListOf s kind) = 2 + tests_of (list_of c s kind) + found_work s kind
  work_bound (JunctionOf s kind j) = 3 + tests_of (junction c j) + found_work s kind
  work_bound (Defaults s) = defaults_work s
  work_bound (Take s d) = firing_work
  work_bound (Enter s d) = 12 + 3 * length (node c s).entry + defaults_work s
  work_bound (Process s) =
      16 + 3 * length (node c s).during + tests_of (list_of c s Outer) + tests_of (list_of c s Inner) + 2 * firing_work
      + processes_below s
