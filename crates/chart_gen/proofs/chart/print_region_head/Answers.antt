use Rattle.std.proofs.Common.{refl, append_assoc}
use Rattle.chart_gen.proofs.TextLemmas.{after, no_line, line_then}
use Rattle.chart_gen.proofs.chart.print_region_head.Goals as goal

-- four lines, one after another
pub returns : goal.returns
returns c =
    after c.writeln-4.result c.writeln-4.ensures.bytes (λ last.
    line_then _ _ _ _ _ _ c.in_ok-writeln.ensures.bytes (simp append_assoc)
    (line_then _ _ _ _ _ _ c.in_ok-writeln-2.ensures.bytes refl
    (line_then _ _ _ _ _ _ c.in_ok-writeln-3.ensures.bytes (simp append_assoc)
    (line_then _ _ _ _ _ _ last refl
    (no_line _)))))
