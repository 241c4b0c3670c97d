use Rattle.std.proofs.Common.{◌≡◌, ◌++◌}
use Rattle.std.specs.Prelude.{string_bytes}
use Rattle.chart_gen.specs.Draws.{after_events}
use Rattle.chart_gen.specs.Cases.{text_of, event_lines}
use Rattle.chart_gen.proofs.events.print_events.Given as goal

-- the lines so far are written, and drawn
abbrev pub invariant-loop-line : goal.invariant-loop-line
invariant-loop-line l = record {
  text : string_bytes l.out ≡ string_bytes l.fn.out ++ text_of (event_lines l._line l.fn.draws.seed);
  seed : l.draws.seed ≡ after_events l._line l.fn.draws.seed;
}
