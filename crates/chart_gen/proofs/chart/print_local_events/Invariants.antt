use Rattle.std.proofs.Common.{◌≡◌, ◌++◌}
use Rattle.std.specs.Prelude.{string_bytes}
use Rattle.chart_gen.specs.Cases.{text_of, numbered, event_declaration}
use Rattle.chart_gen.proofs.chart.print_local_events.Given as goal

-- the lines of the regions so far are written
abbrev pub invariant-loop-region : goal.invariant-loop-region
invariant-loop-region l =
    string_bytes l.out ≡ string_bytes l.fn.out ++ text_of (numbered event_declaration l.region-counter)
