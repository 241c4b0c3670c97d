use Rattle.std.proofs.Common.{◌<◌, length, ap, refl, arith}
use Rattle.checked_chart.specs.Kept.{chart_of}
use Rattle.bound_prove.specs.Certs.{cells_of}
use Rattle.bound_prove.specs.Tables.{event_index, event_count}
use Rattle.bound_prove.proofs.CheckLemmas.{next_row, rows_good}
use Rattle.bound_prove.proofs.check.is_good.Goals as goal

pub loop-number-preserved : goal.loop-number-preserved
loop-number-preserved c =
    let row = c.in_ok-is_row_good.ensures in
    record {
      good =
          next_row (chart_of c.args.chart.now) (cells_of c.args.cert.now) c.loop-number.number c.event_of-event.result
          c.event_of-event.ensures c.loop-number.invariant.good (row.good.0 c.if-not-branch.false);
      marks = row.marks;
      firings = row.firings;
    }

pub returns : goal.returns
returns c =
    let chart = chart_of c.args.chart.now in
    let items = ap length c.items.ensures in
    let names = ap (λ n. length n.events) c.names.ensures.names in (
      λ t. rows_good chart c.args.cert.now c.requires
          (λ e lt. c.loop-number.invariant.good e (let h : event_index e < event_count chart = lt in omega
          (arith, items, names, h))),
      λ good. refl,
    )
