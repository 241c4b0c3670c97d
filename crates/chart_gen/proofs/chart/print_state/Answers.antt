use Rattle.std.proofs.Common.{refl, append_assoc}
use Rattle.chart_gen.proofs.TextLemmas.{after, no_line, line_then}
use Rattle.chart_gen.proofs.chart.print_state.Goals as goal

-- six lines, one after another
pub returns : goal.returns
returns c =
    after c.writeln-2.result c.writeln-2.ensures.bytes (λ last.
    line_then _ _ _ _ _ _ c.in_ok-writeln.ensures.bytes (simp append_assoc)
    (line_then _ _ _ _ _ _ c.in_ok-print_entry.ensures refl
    (line_then _ _ _ _ _ _ c.in_ok-print_leading.ensures refl
    (line_then _ _ _ _ _ _ c.in_ok-print_sending.ensures refl
    (line_then _ _ _ _ _ _ c.in_ok-print_local.ensures refl
    (line_then _ _ _ _ _ _ last refl
    (no_line _)))))))
