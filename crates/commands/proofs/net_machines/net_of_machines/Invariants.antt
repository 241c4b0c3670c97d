use Rattle.std.proofs.Common.{take}
use Rattle.commands.specs.NetCharts.{loaded_in}
use Rattle.commands.specs.NetMachines.{IsMachineNet}
use Rattle.commands.specs.NetRoutes.{routes_in}
use Rattle.net_text.specs.NetTexts.{net_text_of}
use Rattle.commands.proofs.net_machines.net_of_machines.Given as goal

-- the routes of the texts so far were added
abbrev pub invariant-texts : goal.invariant-texts
invariant-texts l =
    let loaded = loaded_in l.files (net_text_of l.net).charts in
    IsMachineNet l.fn.bounds loaded (routes_in loaded (take l.text-index (net_text_of l.net).routes)) l.machines
