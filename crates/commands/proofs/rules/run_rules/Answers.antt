use Rattle.std.proofs.Common.{sym, subst}
use Rattle.commands.specs.Call.{call_of}
use Rattle.checked_chart.specs.Kept.{chart_of}
use Rattle.sos_interpreter.specs.Engine.{EngineState}
use Rattle.commands.specs.Trace.{HasShortNames, TraceEnds}
use Rattle.commands.specs.Rules.{by_rules}
use Rattle.commands.proofs.NameLemmas.{names_short}
use Rattle.commands.proofs.rules.run_rules.Goals as goal

-- the names of a valid chart are short
pub trace-requires-clause-short : goal.trace-requires-clause-short
trace-requires-clause-short g c =
    subst (λ (engine : EngineState). HasShortNames (chart_of engine.chart).names) (sym c.in-Ok.ensures)
    (names_short (chart_of c.args.chart).names c.names.ensures.valid.names.declared)

-- the program of the engine is the chart with its bounds
pub returns : goal.returns
returns g c =
    subst
    (λ (engine : EngineState). TraceEnds (by_rules (chart_of engine.chart) engine.bounds)
    (call_of g.I.Inputs g.O.Sink c.args.inputs.now c.trace.new.inputs c.args.out.now c.trace.new.out)
    c.args.event_file.now c.trace.result)
    c.in-Ok.ensures c.trace.ensures
