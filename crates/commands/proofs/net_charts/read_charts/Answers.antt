use Rattle.std.proofs.Common.{◌∙◌, ap, sym, subst, List}
use Rattle.commands.specs.Call.{sources_of}
use Rattle.commands.proofs.NetChartLemmas.{Progress, one_more, stops_at, take_more}
use Rattle.commands.proofs.net_charts.read_charts.Goals as goal
use Rattle.net_text.specs.declared.net.NetChart.{NetChart}

-- nothing comes of the file of this chart
pub returns-in-Err : goal.returns-in-Err
returns-in-Err g c =
    stops_at (sources_of g.I.Inputs c.args.inputs.now) (sources_of g.I.Inputs c.charts.inputs)
    (sources_of g.I.Inputs c.take_file.new.inputs) c.args.charts.now c.charts.number c.index-charts-number.result
    c.charts.files.items c.in-Err.end c.text-file.result.now c.charts.invariant c.charts-test.true
    c.index-charts-number.is
    (c.text-file.ensures ∙ ap (λ (chart : NetChart). chart.file) (sym c.index-charts-number.is)) c.in-Err.ensures

-- the file of this chart was read too
pub charts-preserved : goal.charts-preserved
charts-preserved g c =
    let before = sources_of g.I.Inputs c.args.inputs.now in
    let after = sources_of g.I.Inputs c.take_file.new.inputs in
    subst (λ (ahead : List NetChart). Progress before after ahead c.take_file.new.files.items)
    (sym (take_more c.args.charts.now c.charts.number c.index-charts-number.result c.charts-test.true
    c.index-charts-number.is))
    (one_more before (sources_of g.I.Inputs c.charts.inputs) after _ c.charts.files.items c.take_file.new.files.items
    c.index-charts-number.result c.text-file.result.now c.charts.invariant
    (c.text-file.ensures ∙ ap (λ (chart : NetChart). chart.file) (sym c.index-charts-number.is)) c.in-Ok.ensures)
