-- No procedure may have more work than 400 for each pair of a state and an item.
use Rattle.std.proofs.Common.{ℕ, suc, ◌+◌, ◌*◌, ◌<◌, ◌≤◌, Bool, true, false, length, arith}
use Rattle.std.specs.Prelude.{◌==◌, if◌then◌else◌}
use Rattle.std.specs.List.{AllByRecursion, sum_by}
use Rattle.active_config.specs.Tree.{state_count}
use Rattle.checked_chart.specs.declared.parts.ListKind.{ListKind}
use Rattle.checked_chart.specs.declared.parts.ListKind.TheVariants.{Outer, Inner, Default}
use Rattle.checked_chart.specs.Chart.{Chart, Trans, node, list_of, junction}
use Rattle.checked_chart.specs.Counts.{trans_statements, statement_count, item_count}
use Rattle.checked_chart.specs.Valid.{IsValid}
use Rattle.chart_code.specs.Keys.{Entry, During, ExitAction, Leave, Exit, Arrive, ListOf, JunctionOf, Defaults}
use Rattle.chart_code.specs.Keys.{Enter, Process}
use Rattle.chart_code.specs.Orders.{sum_to}
use Rattle.layout_bounds.specs.WorkBounds.{tests_of, process_share, enters_below, defaults_work}
use Rattle.layout_bounds.specs.WorkBounds.{firing_work, found_work, work_bound}
use Rattle.layout_bounds.proofs.SumLemmas.{sum_to_term}
use Rattle.layout_bounds.proofs.WorkShares.{defaults_is, firing_is, exit_share_is, enter_share_is, process_share_is}
use Rattle.layout_bounds.proofs.WorkShares.{exits_split, enters_split, processes_split, exits_most, enters_most}
use Rattle.layout_bounds.proofs.WorkShares.{processes_most}
use Rattle.layout_bounds.proofs.WorkCounts.{firings_le, product_is, each_statement, state_statements, junction_statements}
use Rattle.layout_bounds.proofs.WorkCounts.{junction_tests, firing_counted, processing_counted, tests_total}

module _ (c : Chart) where
  -- the most that a procedure may have: all processing, and what blocks and junctions take beside
  abbrev pub most : ℕ
  most =
      4 + 3 * statement_count c + sum_by tests_of c.junctions + firing_work c
      + sum_to (process_share c) (state_count c.tree)

  -- the statements of a transition are among those of the chart
  abbrev pub IsCounted : Trans → Type 0
  IsCounted t = trans_statements t ≤ statement_count c

  -- those of each list of a state are
  pub lists_counted : (s : ℕ) (kind : ListKind) → AllByRecursion IsCounted (list_of c s kind)
  lists_counted s Outer = each_statement (statement_count c) (list_of c s Outer) (omega (arith, state_statements c s))
  lists_counted s Inner = each_statement (statement_count c) (list_of c s Inner) (omega (arith, state_statements c s))
  lists_counted s Default =
      each_statement (statement_count c) (list_of c s Default) (omega (arith, state_statements c s))

  -- those of a junction's list are
  pub junctions_counted : (j : ℕ) → AllByRecursion IsCounted (junction c j)
  junctions_counted j = each_statement (statement_count c) (junction c j) (junction_statements c j)

  module _ (valid : IsValid c) (s : ℕ) (lt : s < state_count c.tree) where
    -- ---- the procedures of a state

    -- its actions
    pub entry_most : work_bound c (Entry s) ≤ most
    entry_most = omega (arith, state_statements c s)

    pub during_most : work_bound c (During s) ≤ most
    during_most = omega (arith, state_statements c s)

    pub exit_action_most : work_bound c (ExitAction s) ≤ most
    exit_action_most = omega (arith, state_statements c s)

    -- leaving its children, and it
    pub leave_most : work_bound c (Leave s) ≤ most
    leave_most =
        omega (arith, exits_split c valid s lt, exit_share_is c s, exits_most c valid s lt, firing_is c)

    pub exit_most : work_bound c (Exit s) ≤ most
    exit_most =
        omega (arith, exits_split c valid s lt, exit_share_is c s, exits_most c valid s lt, firing_is c)

    -- entry, and entry by default, are within a firing
    pub enter_within_firing : 12 + 3 * length (node c s).entry + defaults_work c s ≤ firing_work c
    enter_within_firing =
        omega (
          arith,
          enters_split c valid s lt,
          enter_share_is c s,
          enters_most c valid s lt,
          defaults_is c s,
          firing_is c,
        )

    pub enter_most : (d : ℕ) → work_bound c (Enter s d) ≤ most
    enter_most d = omega (arith, enter_within_firing)

    pub defaults_most : work_bound c (Defaults s) ≤ most
    defaults_most = omega (arith, enter_within_firing)

    -- an arrival, wherever
    inside_most : (here : Bool) → 6 + (if here then defaults_work c s else enters_below c s) ≤ firing_work c
    inside_most true = omega (arith, enter_within_firing)
    inside_most false = omega (arith, enter_within_firing, defaults_is c s)

    pub arrive_most : (d : ℕ) → work_bound c (Arrive s d) ≤ most
    arrive_most d = omega (arith, inside_most (s == d))

    -- what a list leads to
    found_most : (kind : ListKind) → found_work c s kind ≤ firing_work c
    found_most Outer = omega arith
    found_most Inner = omega arith
    found_most Default = inside_most false

    -- a list
    pub list_most : (kind : ListKind) → work_bound c (ListOf s kind) ≤ most
    list_most Outer =
        omega (arith, process_share_is c s, sum_to_term (process_share c) (state_count c.tree) s lt)
    list_most Inner =
        omega (arith, process_share_is c s, sum_to_term (process_share c) (state_count c.tree) s lt)
    list_most Default = omega (arith, enter_within_firing, defaults_is c s)

    -- a junction
    pub junction_most : (kind : ListKind) (j : ℕ) → work_bound c (JunctionOf s kind j) ≤ most
    junction_most kind j = omega (arith, junction_tests c j, found_most kind)

    -- processing
    pub process_most : work_bound c (Process s) ≤ most
    process_most =
        omega (arith, processes_split c valid s lt, process_share_is c s, processes_most c valid s lt)

  -- ---- the whole

  -- so much is asked for
  pub most_within : IsValid c → most ≤ 400 * suc (state_count c.tree) * suc (item_count c)
  most_within valid =
      omega (
        arith,
        firing_counted c valid,
        processing_counted c valid,
        tests_total c valid,
        firings_le (state_count c.tree) (firing_work c) (item_count c) (firing_counted c valid),
        product_is (state_count c.tree) (item_count c),
      )
