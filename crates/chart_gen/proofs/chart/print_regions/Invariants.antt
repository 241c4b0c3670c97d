use Rattle.std.proofs.Common.{◌≡◌, ◌++◌}
use Rattle.std.specs.Prelude.{string_bytes}
use Rattle.chart_gen.specs.Draws.{after_regions}
use Rattle.chart_gen.specs.Cases.{text_of, regions_lines}
use Rattle.chart_gen.proofs.chart.print_regions.Given as goal

-- the regions so far are written, and drawn
abbrev pub invariant-loop-region : goal.invariant-loop-region
invariant-loop-region l = record {
  text : string_bytes l.out ≡ string_bytes l.fn.out ++ text_of (regions_lines l.sizes l.region l.fn.draws.seed);
  seed : l.draws.seed ≡ after_regions l.sizes.states l.region l.fn.draws.seed;
}
