use Rattle.std.proofs.Common.{◌≡◌, ◌-◌}
use Rattle.chart_print.specs.Pieces.{indent, written}
use Rattle.chart_print.proofs.printer.Printer.indent.Given as goal

-- what was printed, and the levels to come, are all
abbrev pub invariant-loop : goal.invariant-loop
invariant-loop l = written l.self (indent (l.level - l.counter)) ≡ written l.fn.self (indent l.level)
