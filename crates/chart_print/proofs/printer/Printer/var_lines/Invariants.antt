use Rattle.std.proofs.Common.{◌≡◌, map, drop}
use Rattle.std.specs.List.{flat_map}
use Rattle.chart_tree.specs.Views.{var_of}
use Rattle.chart_print.specs.Pieces.{written}
use Rattle.chart_print.specs.Canonical.{var_line}
use Rattle.chart_print.proofs.printer.Printer.var_lines.Given as goal

-- what was printed, and the items to come, are all
abbrev pub invariant-loop-var : goal.invariant-loop-var
invariant-loop-var l =
    written l.self (flat_map var_line (map var_of (drop l.var-index l.vars)))
    ≡ written l.fn.self (flat_map var_line (map var_of l.vars))
