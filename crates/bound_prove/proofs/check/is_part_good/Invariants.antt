use Rattle.std.proofs.Common.{ℕ, ◌<◌}
use Rattle.checked_chart.specs.Kept.{chart_of}
use Rattle.bound_prove.specs.Certs.{cells_of}
use Rattle.bound_prove.specs.Checks.{IsCellGood, AllDone}
use Rattle.bound_prove.specs.Firings.{AreRight}
use Rattle.bound_prove.specs.Homes.{AreMarksFor}
use Rattle.bound_prove.proofs.check.is_part_good.Given as goal

-- the cells before are good
abbrev pub invariant-loop-index : goal.invariant-loop-index
invariant-loop-index l = record {
  good : (i : ℕ) → i < l.index → IsCellGood (chart_of l.chart) (cells_of l.cert) l.event l.part i;
  marks : AreMarksFor (chart_of l.chart) l.marks;
  firings : AreRight (chart_of l.chart) (cells_of l.cert) AllDone l.firings;
}
