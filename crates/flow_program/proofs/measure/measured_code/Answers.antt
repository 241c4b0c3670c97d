use Rattle.std.proofs.Common.{[], true, refl, ap, List, ℕ, Some}
use Rattle.flow_base.specs.contracts.sure_inputs.SureInputsInputs.TheImpl as files
use Rattle.commands.specs.Call.{call_of}
use Rattle.checked_chart.specs.Kept.{chart_of}
use Rattle.flow_program.specs.contracts.trace_bytes.TraceBytesSink.TheImpl as bytes
use Rattle.flow_program.proofs.MeasureLemmas.{kept_of, some_newline, measured}
use Rattle.flow_program.proofs.measure.measured_code.Goals as goal

-- a trace has the line of the start
pub measures_of-requires-clause-begun : goal.measures_of-requires-clause-begun
measures_of-requires-clause-begun c =
    let chart = chart_of c.args.chart.now in
    let kept = c.run_printed-end.new.out.bytes.items in
    let call = call_of files.ghosts bytes.ghosts c.in_ok-inputs.inputs c.run_printed-end.new.inputs c.new-out.result
    c.run_printed-end.new.out in
    let run = kept_of chart c.args.bounds true call [] c.args.events.now kept c.run_printed-end.result
    c.names.ensures.valid.names
    c.in_ok-inputs.ensures (ap (λ (z : List ℕ). Some z) c.new-out.ensures) refl c.run_printed-end.ensures in
    some_newline chart c.args.bounds c.args.events.now kept c.run_printed-end.result run

-- the bytes that were kept are counted
pub returns : goal.returns
returns c =
    let chart = chart_of c.args.chart.now in
    let kept = c.run_printed-end.new.out.bytes.items in
    let call = call_of files.ghosts bytes.ghosts c.in_ok-inputs.inputs c.run_printed-end.new.inputs c.new-out.result
    c.run_printed-end.new.out in
    let run = kept_of chart c.args.bounds true call [] c.args.events.now kept c.run_printed-end.result
    c.names.ensures.valid.names
    c.in_ok-inputs.ensures (ap (λ (z : List ℕ). Some z) c.new-out.ensures) refl c.run_printed-end.ensures in
    measured chart c.args.bounds c.args.events.now kept c.run_printed-end.result c.measures_of.result run
    c.measures_of.ensures.whole c.measures_of.ensures.counts
