use Rattle.std.proofs.Common.{[], ◌∷◌, ◌++◌, refl}
use Rattle.std.specs.Prelude.{codes}
use Rattle.chart_gen.specs.Draws.{region_draws, after_region}
use Rattle.chart_gen.specs.Cases.{region_head, states_lines}
use Rattle.chart_gen.proofs.TextLemmas.{after, no_line, line_then, lines_then}
use Rattle.chart_gen.proofs.chart.print_region.Goals as goal

-- the head, the states and the end
pub returns-clause-text : goal.returns-clause-text
returns-clause-text c =
    let i = c.args.region in
    let sizes = c.args.sizes in
    let seed = c.args.draws.now.seed in
    let states = states_lines sizes i sizes.states (after_region seed) in
    let end = codes "}" ∷ [] in
    after c.writeln.result c.writeln.ensures.bytes (λ last. lines_then _ _ _ (region_head i (region_draws sizes.states seed)) (states ++ end)
    (rw c.region.ensures.region at c.in_ok-print_region_head.ensures)
    (lines_then _ _ _ states end
    (rw c.region.ensures.seed at c.in_ok-print_states.ensures.text)
    (line_then _ _ _ _ _ _ last refl (no_line _))))
