use Rattle.std.proofs.Common.{take}
use Rattle.commands.specs.Call.{sources_of}
use Rattle.commands.proofs.NetChartLemmas.{Progress}
use Rattle.commands.proofs.net_charts.read_charts.Given as goal

-- the files of the charts so far were read
abbrev pub invariant-charts : goal.invariant-charts
invariant-charts g l = Progress (sources_of g.I.Inputs l.fn.inputs) (sources_of g.I.Inputs l.inputs)
    (take l.number l.charts) l.files.items
