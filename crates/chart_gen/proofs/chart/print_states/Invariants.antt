use Rattle.std.proofs.Common.{◌≡◌, ◌++◌}
use Rattle.std.specs.Prelude.{string_bytes}
use Rattle.chart_gen.specs.Draws.{after_states}
use Rattle.chart_gen.specs.Cases.{text_of, states_lines}
use Rattle.chart_gen.proofs.chart.print_states.Given as goal

-- the states so far are written, and drawn
abbrev pub invariant-loop-number : goal.invariant-loop-number
invariant-loop-number l = record {
  text : string_bytes l.out ≡ string_bytes l.fn.out ++ text_of (states_lines l.sizes l.region l.number l.fn.draws.seed);
  seed : l.draws.seed ≡ after_states l.number l.fn.draws.seed;
}
