use Rattle.std.proofs.Common.{◌≡◌, List, map, ap, ◌∙◌}
use Rattle.chart_tree.specs.Views.{chart_of}
use Rattle.chart_places.specs.Placed.{Placed, Owned, placed_states, placed_tree, placed_junctions}
use Rattle.chart_places.specs.Survey.{placed_of, owned_of}
use Rattle.chart_places.specs.Tables.{state_name, junction_name, event_name, var_name}
use Rattle.chart_places.proofs.MakeLemmas.{are_tables, scopes_seen-same, tables-seen}
use Rattle.chart_places.proofs.scopes.Scopes.make.Goals as goal

pub invariant_of-result : goal.invariant_of-result
invariant_of-result c =
    let ps = map placed_of c.args.states.now in
    let os = map owned_of c.args.junctions.now in
    let es = (chart_of c.args.chart.now).events in
    let vs = (chart_of c.args.chart.now).vars in
    let shape : c.args.shape ≡ placed_tree ps = c.requires.shape in
    let tree = c.in-Ok in
    let declared = c.in-Ok-of_declarations in
    let states : tree.states ≡ map state_name ps = tree.ensures.states in
    let junctions : tree.junctions ≡ map junction_name os = tree.ensures.junctions in
    let events : declared.events ≡ map event_name es = declared.ensures.events in
    let vars : declared.vars ≡ map var_name vs = declared.ensures.vars in
    rw (shape, states, junctions, events, vars) (are_tables ps os es vs)

pub returns-in-Ok-of_declarations : goal.returns-in-Ok-of_declarations
returns-in-Ok-of_declarations c =
    let root = (chart_of c.args.chart.now).root in
    let tree = c.in-Ok in
    let declared = c.in-Ok-of_declarations in
    let shape : c.args.shape ≡ placed_tree (placed_states root) =
    c.requires.shape ∙ ap placed_tree c.requires.states in
    let states : tree.states ≡ map state_name (placed_states root) =
    tree.ensures.states ∙ ap (λ (xs : List Placed). map state_name xs) c.requires.states in
    let junctions : tree.junctions ≡ map junction_name (placed_junctions (placed_states root)) =
    tree.ensures.junctions
    ∙ ap (λ (xs : List Owned). map junction_name xs) (c.requires.junctions ∙ ap placed_junctions c.requires.states) in
    scopes_seen-same shape states junctions declared.ensures.events declared.ensures.vars
    ∙ tables-seen (chart_of c.args.chart.now)
