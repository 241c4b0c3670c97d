use Rattle.std.proofs.Common.{◌<◌}
use Rattle.actions.specs.declared.event.Event.{Event}
use Rattle.checked_chart.specs.Kept.{chart_of}
use Rattle.bound_prove.specs.Certs.{cells_of}
use Rattle.bound_prove.specs.Checks.{IsRowGood, AllDone}
use Rattle.bound_prove.specs.Firings.{AreRight}
use Rattle.bound_prove.specs.Homes.{AreMarksFor}
use Rattle.bound_prove.specs.Tables.{event_index}
use Rattle.bound_prove.proofs.check.is_good.Given as goal

-- the cells of the events before are good
abbrev pub invariant-loop-number : goal.invariant-loop-number
invariant-loop-number l = record {
  good : (e : Event) → event_index e < l.number → IsRowGood (chart_of l.chart) (cells_of l.cert) e;
  marks : AreMarksFor (chart_of l.chart) l.marks;
  firings : AreRight (chart_of l.chart) (cells_of l.cert) AllDone l.firings;
}
