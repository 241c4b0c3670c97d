use Rattle.std.proofs.Common.{append_assoc, ◌∙◌}
use Rattle.chart_gen.proofs.TextLemmas.{after}
use Rattle.chart_gen.proofs.chart.print_local.Goals as goal

-- the transition, and the end of its line
pub returns : goal.returns
returns c = after c.writeln.result c.writeln.ensures.bytes (λ written. written ∙ simp append_assoc)
