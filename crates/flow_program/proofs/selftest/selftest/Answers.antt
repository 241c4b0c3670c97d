use Rattle.std.proofs.Common.{ap, ◌∙◌}
use Rattle.active_config.specs.Tree.{Tree, state_count}
use Rattle.commands.specs.Call.{output_of}
use Rattle.checked_chart.specs.Kept.{chart_of}
use Rattle.flow_program.proofs.SelftestLemmas.{is_measured, line_written, line_cut}
use Rattle.flow_program.proofs.selftest.selftest.Goals as goal

-- the line was written
pub returns-in-Ok-write_all : goal.returns-in-Ok-write_all
returns-in-Ok-write_all g c =
    let chart = chart_of c.in-Ok-accept_chart.chart in
    let m = c.in-Ok-measured.measures in
    let states = c.len-states.ensures.count ∙ ap (λ (t : Tree). state_count t) c.shape.ensures.shape in
    let known = is_measured c.args.n c.len-states.result chart c.usual.result m c.as_bytes.result.now
    c.events.result.now
    (c.as_bytes.ensures.value ∙ c.chart.ensures ∙ c.in-Ok.ensures.chart) (c.events.ensures ∙ c.in-Ok.ensures.events)
    c.in-Ok-accept_chart.ensures.accepted c.usual.ensures.depth c.usual.ensures.steps states c.in-Ok-measured.ensures in
    rw c.end_of.ensures (line_written c.args.n c.len-states.result chart c.usual.result m
    (output_of g.O.Sink c.args.out.now)
    (output_of g.O.Sink c.write_all.new.out) c.as_bytes-2.result.now known (c.as_bytes-2.ensures.value
    ∙ c.in-Ok-line_of.ensures)
    (record { bytes = c.in-Ok-write_all.ensures.ok; quiet = c.in-Ok-write_all.ensures.cause.ok }))

-- a write failed
pub returns : goal.returns
returns g c =
    let chart = chart_of c.in-Ok-accept_chart.chart in
    let m = c.in-Ok-measured.measures in
    let states = c.len-states.ensures.count ∙ ap (λ (t : Tree). state_count t) c.shape.ensures.shape in
    let known = is_measured c.args.n c.len-states.result chart c.usual.result m c.as_bytes.result.now
    c.events.result.now
    (c.as_bytes.ensures.value ∙ c.chart.ensures ∙ c.in-Ok.ensures.chart) (c.events.ensures ∙ c.in-Ok.ensures.events)
    c.in-Ok-accept_chart.ensures.accepted c.usual.ensures.depth c.usual.ensures.steps states c.in-Ok-measured.ensures in
    line_cut c.args.n c.len-states.result chart c.usual.result m (output_of g.O.Sink c.args.out.now)
    (output_of g.O.Sink c.write_all.new.out) c.as_bytes-2.result.now known (c.as_bytes-2.ensures.value
    ∙ c.in-Ok-line_of.ensures)
    (record { cause = c.in-Err.ensures.cause.failed; front = c.in-Err.ensures.failed })
