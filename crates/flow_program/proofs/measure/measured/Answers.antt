use Rattle.checked_chart.specs.Kept.{chart_of}
use Rattle.flow_program.proofs.MeasureLemmas.{one_measure}
use Rattle.flow_program.proofs.measure.measured.Goals as goal

-- the code of a chart runs as the chart does
pub unreachable-requires : goal.unreachable-requires
unreachable-requires c =
    let same = one_measure (chart_of c.args.chart) c.args.bounds c.args.events.now c.in_ok-measures.measures
    c.in_ok-compiled.compiled
    c.in_ok-measures.ensures c.in_ok-compiled.ensures in
    let equal = c.are_same.ensures.1 same in
    let other = c.if-not-are_same.true in
    absurd (cc)
