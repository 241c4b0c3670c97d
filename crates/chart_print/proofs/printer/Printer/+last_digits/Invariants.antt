use Rattle.chart_print.proofs.printer.Printer.+last_digits.Given as goal

abbrev pub decreases-last_digits : goal.decreases-last_digits
decreases-last_digits l = l.count
