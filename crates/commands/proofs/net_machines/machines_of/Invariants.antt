use Rattle.std.proofs.Common.{[], take}
use Rattle.commands.specs.NetCharts.{loaded_in}
use Rattle.commands.specs.NetMachines.{IsMachineNet}
use Rattle.commands.proofs.net_machines.machines_of.Given as goal

-- the machines of the charts so far were added
abbrev pub invariant-charts : goal.invariant-charts
invariant-charts l = IsMachineNet l.bounds (loaded_in l.files (take l.chart-index l.charts)) [] l.machines
