use Rattle.std.proofs.Common.{◌≡◌, List, [], None, take, drop, suc, sym, subst, arith}
use lib.ListN.{length-take}
use Rattle.commands.specs.NetCharts.{AllRead, loaded_in}
use Rattle.commands.specs.NetMachines.{IsMachineNet}
use Rattle.commands.proofs.NetChartLemmas.{cut_at, take_more}
use Rattle.commands.proofs.NetMachineLemmas.{few_charts, is_new, one_added, read_at}
use Rattle.net_text.specs.NetTexts.{first_repeat, names_of}
use Rattle.net_text.specs.declared.net.NetChart.{NetChart}
use Rattle.commands.proofs.net_machines.machines_of.Goals as goal

-- there is room for one chart more
pub add_machine-requires-clause-few : goal.add_machine-requires-clause-few
add_machine-requires-clause-few c =
    let ahead = take c.charts.chart-index c.args.charts.now in
    let few = few_charts c.args.bounds c.args.files.now ahead c.charts.machines c.charts.invariant in
    omega (arith, few, length-take c.charts.chart-index c.args.charts.now, c.charts-test.true, c.requires.few)

-- its name is new
pub add_machine-requires-clause-new : goal.add_machine-requires-clause-new
add_machine-requires-clause-new c =
    let ahead = take c.charts.chart-index c.args.charts.now in
    let later = drop (suc c.charts.chart-index) c.args.charts.now in
    let parts = cut_at c.args.charts.now c.charts.chart-index c.chart-item.result c.charts-test.true c.chart-item.is in
    is_new c.args.bounds c.args.files.now ahead c.chart-item.result later c.charts.machines c.charts.invariant
    (subst (AllRead c.args.files.now) parts c.requires.read)
    (subst (λ (charts : List NetChart). first_repeat [] (names_of charts) ≡ None) parts c.requires.named)

-- its file was read
pub add_machine-requires-clause-read : goal.add_machine-requires-clause-read
add_machine-requires-clause-read c =
    let ahead = take c.charts.chart-index c.args.charts.now in
    let later = drop (suc c.charts.chart-index) c.args.charts.now in
    let parts = cut_at c.args.charts.now c.charts.chart-index c.chart-item.result c.charts-test.true c.chart-item.is in
    read_at c.args.files.now ahead c.chart-item.result later (subst (AllRead c.args.files.now) parts c.requires.read)

-- the machine of this chart was added too
pub charts-preserved : goal.charts-preserved
charts-preserved c =
    let ahead = take c.charts.chart-index c.args.charts.now in
    let more = take_more c.args.charts.now c.charts.chart-index c.chart-item.result c.charts-test.true c.chart-item.is
    in
    subst (λ (charts : List NetChart). IsMachineNet c.args.bounds (loaded_in c.args.files.now charts) []
    c.add_machine.new.machines)
    (sym more)
    (one_added c.args.bounds c.args.files.now ahead c.chart-item.result c.charts.machines c.add_machine.new.machines
    c.charts.invariant c.in_ok-add_machine.ensures)
