use Rattle.std.proofs.Common.{map, ap, ◌∙◌}
use Rattle.active_config.specs.Tree.{tree_of}
use Rattle.chart_places.specs.Survey.{placed_of, parent_numbers}
use Rattle.chart_places.proofs.ShapeLemmas.{placed_tree-made}
use Rattle.chart_places.proofs.tree.shape_of.Goals as goal

pub returns-in-Ok : goal.returns-in-Ok
returns-in-Ok c =
    let parents = c.in_ok-parents.ensures in
    let comps = c.in_ok-comps.ensures in
    c.in-Ok.ensures.shape
    ∙ ap (λ ps. tree_of ps c.in_ok-comps.comps.items) parents
    ∙ ap (λ cs. tree_of (parent_numbers (map placed_of c.args.states.now)) cs) comps
    ∙ placed_tree-made (map placed_of c.args.states.now) c.requires.tree
