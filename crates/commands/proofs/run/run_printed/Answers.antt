use Rattle.std.proofs.Common.{subst}
use Rattle.commands.specs.Call.{call_of}
use Rattle.checked_chart.specs.Kept.{chart_of}
use Rattle.code_language.specs.Code.{Code}
use Rattle.commands.specs.Trace.{TraceEnds}
use Rattle.commands.specs.Exec.{by_code}
use Rattle.commands.proofs.SameTraces.{traced_to_rules}
use Rattle.commands.proofs.run.run_printed.Goals as goal

-- what is traced of the chart's code is traced of the chart
pub returns : goal.returns
returns g c =
    let call = call_of g.I.Inputs g.O.Sink c.args.inputs.now c.run_code.new.inputs c.args.out.now c.run_code.new.out in
    traced_to_rules (chart_of c.args.chart.now) c.shape-shape.ensures.valid c.args.bounds call c.args.event_file.now
    c.run_code.result
    (subst (λ (k : Code). TraceEnds (by_code k c.args.bounds) call c.args.event_file.now c.run_code.result)
    c.in-Ok.ensures c.run_code.ensures)
