use Rattle.std.proofs.Common.{◌≡◌, map, drop}
use Rattle.std.specs.List.{flat_map}
use Rattle.chart_tree.specs.Views.{state_of}
use Rattle.chart_print.specs.Pieces.{written}
use Rattle.chart_print.specs.Canonical.{state_pieces}
use Rattle.chart_print.proofs.printer.Printer.+state.Given as goal

-- what was printed, and the items to come, are all
abbrev pub invariant-states-loop-state : goal.invariant-states-loop-state
invariant-states-loop-state l =
    written l.self (flat_map (state_pieces l.level) (map state_of (drop l.state-index l.states)))
    ≡ written l.fn.self (flat_map (state_pieces l.level) (map state_of l.states))
