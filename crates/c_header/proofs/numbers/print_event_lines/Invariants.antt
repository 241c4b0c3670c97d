use Rattle.std.proofs.Common.{◌≡◌, ◌++◌, drop}
use Rattle.std.specs.Prelude.{string_bytes}
use Rattle.c_header.specs.Header.{event_lines}
use Rattle.c_header.proofs.numbers.print_event_lines.Given as goal

-- what was printed, and the events to come, are all
abbrev pub invariant-loop-number : goal.invariant-loop-number
invariant-loop-number l =
    string_bytes l.out ++ event_lines l.chart l.number (drop l.number l.events)
    ≡ string_bytes l.fn.out ++ event_lines l.chart 0 l.events
