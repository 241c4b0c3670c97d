use Rattle.std.proofs.Common.{◌≡◌, map, drop}
use Rattle.std.specs.List.{flat_map}
use Rattle.chart_tree.specs.Views.{trans_of}
use Rattle.chart_print.specs.Pieces.{written}
use Rattle.chart_print.specs.Canonical.{trans_line}
use Rattle.chart_print.proofs.printer.Printer.trans_lines.Given as goal

-- what was printed, and the items to come, are all
abbrev pub invariant-loop-trans : goal.invariant-loop-trans
invariant-loop-trans l =
    written l.self (flat_map (trans_line l.level l.keyword) (map trans_of (drop l.trans-index l.list)))
    ≡ written l.fn.self (flat_map (trans_line l.level l.keyword) (map trans_of l.list))
