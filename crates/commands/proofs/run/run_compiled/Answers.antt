use Rattle.checked_chart.specs.Kept.{chart_of}
use Rattle.commands.specs.Call.{sources_of, call_of}
use Rattle.commands.proofs.ReadingLemmas.{both_of_two}
use Rattle.commands.proofs.TraceLemmas.{file_ran, trace_others}
use Rattle.accepted_charts.specs.Accepted.{IsAccepted}
use Rattle.commands.specs.Run.{by_compiled}
use Rattle.commands.proofs.run.run_compiled.Goals as goal

-- the chart was compiled and ran
pub returns-clause-ends : goal.returns-clause-ends
returns-clause-ends g c =
    let given = c.in-Ok.ensures in
    file_ran IsAccepted by_compiled
    (call_of g.I.Inputs g.O.Sink c.args.inputs.now c.run_printed.new.inputs c.args.out.now c.run_printed.new.out)
    c.args.chart_file.now c.args.event_file.now (sources_of g.I.Inputs c.read_accepted.new.inputs)
    (chart_of c.in-Ok.chart)
    c.args.bounds c.run_printed.result (record { text = given.text; read = given.read; means = given.means })
    c.run_printed.ensures

pub returns-clause-others : goal.returns-clause-others
returns-clause-others g c =
    both_of_two (sources_of g.I.Inputs c.args.inputs.now) (sources_of g.I.Inputs c.read_accepted.new.inputs)
    (sources_of g.I.Inputs c.run_printed.new.inputs) c.args.chart_file.now c.args.event_file.now
    c.in-Ok.ensures.read.others
    (trace_others _
    (call_of g.I.Inputs g.O.Sink c.read_accepted.new.inputs c.run_printed.new.inputs c.args.out.now c.run_printed.new.out)
    c.args.event_file.now c.run_printed.result c.run_printed.ensures)
