use Rattle.std.proofs.Common.{◌≡◌, ◌++◌, map, drop}
use Rattle.std.specs.Prelude.{string_bytes}
use Rattle.code_fields.specs.Spelling.{event_line}
use Rattle.code_text.specs.Spelling.{text_of}
use Rattle.code_text.proofs.printer.print_each_event.Given as goal

-- what was printed, and the lines to come, are all
abbrev pub invariant-loop-event : goal.invariant-loop-event
invariant-loop-event l =
    string_bytes l.out ++ text_of (map event_line (drop l.event-index l.events)) ≡ string_bytes l.fn.out ++ text_of (map event_line l.events)
