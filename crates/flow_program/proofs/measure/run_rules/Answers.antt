use Rattle.std.proofs.Common.{[], sym, subst}
use Rattle.flow_base.specs.contracts.sure_inputs.SureInputsInputs.TheImpl as files
use Rattle.commands.specs.Call.{call_of}
use Rattle.checked_chart.specs.Kept.{chart_of}
use Rattle.sos_interpreter.specs.Engine.{EngineState}
use Rattle.commands.specs.Trace.{HasShortNames, TraceEnds}
use Rattle.commands.proofs.NameLemmas.{names_short}
use Rattle.commands.specs.Rules.{by_rules}
use Rattle.flow_program.specs.contracts.trace_bytes.TraceBytesSink.TheImpl as bytes
use Rattle.flow_program.proofs.measure.run_rules.Goals as goal

-- the names of a valid chart are short
pub trace-requires-clause-short : goal.trace-requires-clause-short
trace-requires-clause-short c =
    subst (λ (engine : EngineState). HasShortNames (chart_of engine.chart).names) (sym c.in-Ok.ensures)
    (names_short (chart_of c.args.chart).names c.names.ensures.valid.names.declared)

-- the program of the engine is the chart with its bounds
pub returns : goal.returns
returns c =
    subst
    (λ (engine : EngineState). TraceEnds (by_rules (chart_of engine.chart) engine.bounds)
    (call_of files.ghosts bytes.ghosts c.args.inputs.now c.trace.new.inputs c.args.out.now c.trace.new.out) []
    c.trace.result)
    c.in-Ok.ensures c.trace.ensures
