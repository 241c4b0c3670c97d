use Rattle.std.proofs.Common.{[], ◌∷◌, ◌++◌, refl}
use Rattle.std.specs.Prelude.{codes}
use Rattle.chart_gen.specs.Draws.{sizes, after_sizes}
use Rattle.chart_gen.specs.Cases.{chart_head, event_declaration, datum_declaration, numbered, regions_lines}
use Rattle.chart_gen.proofs.TextLemmas.{after, no_line, line_then, lines_then}
use Rattle.chart_gen.proofs.chart.print_chart.Goals as goal

-- the parts, one after another
pub returns-clause-text : goal.returns-clause-text
returns-clause-text c =
    let seed = c.args.draws.now.seed in
    let here = sizes seed in
    let regions = regions_lines here here.regions (after_sizes seed) in
    let local_data = numbered datum_declaration here.regions in
    let input = codes "input x : int16;" in
    let end = codes "}" ∷ [] in
    let rest = local_data ++ (regions ++ end) in
    let events = numbered event_declaration here.regions in
    after c.writeln-2.result c.writeln-2.ensures.bytes (λ last. lines_then _ _ _ chart_head (events ++ (input ∷ rest)) c.in_ok-print_head.ensures
    (lines_then _ _ _ events (input ∷ rest)
    (rw c.sizes-sizes.ensures.sizes at c.in_ok-print_local_events.ensures)
    (line_then _ _ _ input _ rest c.in_ok-writeln.ensures.bytes refl
    (lines_then _ _ _ local_data (regions ++ end) (rw c.sizes-sizes.ensures.sizes at c.in_ok-print_data.ensures)
    (lines_then _ _ _ regions end
    (rw (c.sizes-sizes.ensures.sizes, c.sizes-sizes.ensures.seed) at c.in_ok-print_regions.ensures.text)
    (line_then _ _ _ _ _ _ last refl (no_line _)))))))
