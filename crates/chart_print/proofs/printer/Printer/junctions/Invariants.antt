use Rattle.std.proofs.Common.{◌≡◌, map, drop}
use Rattle.std.specs.List.{flat_map}
use Rattle.chart_tree.specs.Views.{junction_of}
use Rattle.chart_print.specs.Pieces.{written}
use Rattle.chart_print.specs.Canonical.{junction_pieces}
use Rattle.chart_print.proofs.printer.Printer.junctions.Given as goal

-- what was printed, and the items to come, are all
abbrev pub invariant-loop-junction : goal.invariant-loop-junction
invariant-loop-junction l =
    written l.self (flat_map (junction_pieces l.level) (map junction_of (drop l.junction-index l.junctions)))
    ≡ written l.fn.self (flat_map (junction_pieces l.level) (map junction_of l.junctions))
