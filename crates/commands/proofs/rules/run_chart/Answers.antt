use Rattle.commands.specs.Call.{sources_of, call_of}
use Rattle.commands.proofs.ReadingLemmas.{both_of_two}
use Rattle.commands.proofs.TraceLemmas.{trace_others}
use Rattle.commands.proofs.RulesLemmas.{ran}
use Rattle.commands.proofs.rules.run_chart.Goals as goal

-- the chart ran
pub returns-clause-ends : goal.returns-clause-ends
returns-clause-ends g c =
    ran (call_of g.I.Inputs g.O.Sink c.args.inputs.now c.run_rules.new.inputs c.args.out.now c.run_rules.new.out)
    c.args.chart_file.now c.args.event_file.now
    (sources_of g.I.Inputs c.read_accepted.new.inputs) c.in-Ok.chart c.args.bounds c.run_rules.result
    c.in-Ok.ensures c.run_rules.ensures

pub returns-clause-others : goal.returns-clause-others
returns-clause-others g c =
    both_of_two (sources_of g.I.Inputs c.args.inputs.now) (sources_of g.I.Inputs c.read_accepted.new.inputs)
    (sources_of g.I.Inputs c.run_rules.new.inputs) c.args.chart_file.now c.args.event_file.now
    c.in-Ok.ensures.read.others
    (trace_others _ (call_of g.I.Inputs g.O.Sink c.read_accepted.new.inputs c.run_rules.new.inputs c.args.out.now c.run_rules.new.out)
    c.args.event_file.now c.run_rules.result c.run_rules.ensures)
