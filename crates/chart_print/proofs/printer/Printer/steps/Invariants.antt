use Rattle.std.proofs.Common.{◌≡◌, drop}
use Rattle.std.specs.List.{flat_map}
use Rattle.chart_print.specs.Pieces.{written}
use Rattle.chart_print.specs.Words.{step_pieces}
use Rattle.chart_print.proofs.printer.Printer.steps.Given as goal

-- what was printed, and the items to come, are all
abbrev pub invariant-loop-name : goal.invariant-loop-name
invariant-loop-name l =
    written l.self (flat_map step_pieces (drop l.name-index l.names))
    ≡ written l.fn.self (flat_map step_pieces l.names)
