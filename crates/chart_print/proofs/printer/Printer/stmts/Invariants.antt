use Rattle.std.proofs.Common.{◌≡◌, map, drop}
use Rattle.std.specs.List.{flat_map}
use Rattle.chart_tree.specs.Views.{stmt_of}
use Rattle.chart_print.specs.Pieces.{written}
use Rattle.chart_print.specs.Transitions.{block_stmt_pieces}
use Rattle.chart_print.proofs.printer.Printer.stmts.Given as goal

-- what was printed, and the items to come, are all
abbrev pub invariant-loop-stmt : goal.invariant-loop-stmt
invariant-loop-stmt l =
    written l.self (flat_map block_stmt_pieces (map stmt_of (drop l.stmt-index l.stmts)))
    ≡ written l.fn.self (flat_map block_stmt_pieces (map stmt_of l.stmts))
