-- The tables of the code of a chart are right, and the procedures of a start and of a reaction are among all.
use Rattle.std.proofs.Common.{◌≡◌, ℕ, ◌<◌, true, length, refl, arith}
use Rattle.std.specs.Prelude.{nat_lt}
use Rattle.std.proofs.lemmas.Bool.{lt-ltb, and_from}
use Rattle.active_config.proofs.PathLemmas.{is_at_or_below-same}
use Rattle.checked_chart.specs.Chart.{Chart}
use Rattle.checked_chart.specs.Valid.{IsValid}
use Rattle.code_language.specs.Tables.{IsTable}
use Rattle.code_language.specs.WellFormed.{starts_known}
use Rattle.chart_code.specs.Kinds.{IsPath}
use Rattle.chart_code.specs.Bodies.{procedures_of, code_of_chart}
use Rattle.chart_code.specs.Places.{total, numbers}
use Rattle.chart_code.proofs.Whole.{procedures_length}
use Rattle.layout_bounds.proofs.NumberOrder.{process_low, enter_there}

module _ (c : Chart) (valid : IsValid c) where
  -- the tables are those of the chart
  pub table : IsTable (code_of_chart c).tree (code_of_chart c).names
  unfolding code_of_chart
  table = record {
    tree = valid.tree;
    states = valid.limits.states;
    depth = valid.limits.depth;
    vars = valid.limits.vars;
    events = valid.limits.events;
    names = valid.names;
    inits = valid.inits;
    flags = valid.flags;
  }

  -- the root is at the root
  root : IsPath c.tree 0 0
  root = record { state = valid.tree.some; below = is_at_or_below-same c.tree 0 0 refl }

  -- a number below the total is that of a procedure
  there : (p : ℕ) → p < total c → nat_lt p (length (procedures_of c).procs) ≡ true
  there p lt = lt-ltb p (length (procedures_of c).procs) (omega (arith, procedures_length c))

  -- those that are called first are there
  pub starts : starts_known (code_of_chart c).procedures ≡ true
  unfolding code_of_chart procedures_of
  starts = and_from
      (nat_lt ((numbers c).enter 0 0) (length (procedures_of c).procs))
      (nat_lt ((numbers c).process 0) (length (procedures_of c).procs))
      (there ((numbers c).enter 0 0) (enter_there c valid 0 0 root))
      (there ((numbers c).process 0) (process_low c 0 valid.tree.some))
