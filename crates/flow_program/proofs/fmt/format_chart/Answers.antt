use Rattle.chart_tree.specs.declared.limits.TheConstants.{CHART_TEXT_LIMIT}
use Rattle.chart_format.specs.Text.{IsFormatted}
use Rattle.commands.specs.Call.{sources_of, call_of}
use Rattle.commands.proofs.ReadingLemmas.{one_named, others_kept}
use Rattle.commands.proofs.TextLemmas.{text_ends}
use Rattle.flow_program.specs.Refusals.{RefusesChart}
use Rattle.flow_program.proofs.fmt.format_chart.Goals as goal

pub returns-clause-ends : goal.returns-clause-ends
returns-clause-ends g c =
    text_ends CHART_TEXT_LIMIT IsFormatted RefusesChart
    (call_of g.I.Inputs g.O.Sink c.args.inputs.now c.read_formatted-canonical.new.inputs c.args.out.now c.write_made.new.out)
    c.args.chart_file.now c.read_formatted-canonical.result c.write_made.result c.read_formatted-canonical.ensures
    c.write_made.ensures

pub returns-clause-others : goal.returns-clause-others
returns-clause-others g c =
    one_named (sources_of g.I.Inputs c.args.inputs.now) (sources_of g.I.Inputs c.read_formatted-canonical.new.inputs)
    c.args.chart_file.now
    (others_kept CHART_TEXT_LIMIT _ RefusesChart _ _ c.args.chart_file.now c.read_formatted-canonical.result
    c.read_formatted-canonical.ensures)
