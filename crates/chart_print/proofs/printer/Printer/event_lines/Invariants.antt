use Rattle.std.proofs.Common.{◌≡◌, drop}
use Rattle.std.specs.List.{flat_map}
use Rattle.chart_print.specs.Pieces.{written}
use Rattle.chart_print.specs.Canonical.{event_line}
use Rattle.chart_print.proofs.printer.Printer.event_lines.Given as goal

-- what was printed, and the items to come, are all
abbrev pub invariant-loop-event : goal.invariant-loop-event
invariant-loop-event l =
    written l.self (flat_map event_line (drop l.event-index l.events))
    ≡ written l.fn.self (flat_map event_line l.events)
