use Rattle.std.proofs.Common.{map, refl, sym, ap, ◌∙◌, subst}
use Rattle.std.specs.List.{AllByRecursion}
use Rattle.flow_base.specs.Lists.{items_of}
use Rattle.actions.specs.Names.{names_of}
use Rattle.resolved_tree.specs.Plain as plain
use Rattle.resolved_tree.specs.Promise.{AreTrans, IsStateOf}
use Rattle.resolved_tree.specs.Resolved.{Junction}
use Rattle.resolved_tree.specs.Views.{state_of, junction_of, resolved_of}
use Rattle.checked_chart.specs.Views.{list_seen}
use Rattle.chart_check.proofs.MapLemmas.{map_map}
use Rattle.chart_check.proofs.PartLemmas.{names_with, chart_made}
use Rattle.chart_check.proofs.parts.build.Goals as goal

pub plain_nodes-requires : goal.plain_nodes-requires
plain_nodes-requires c =
    let r = resolved_of c.args.resolved in
    (r, subst (λ xs. AllByRecursion (IsStateOf r) (map state_of xs)) (sym c.items.ensures) c.requires.states)

pub plain_junctions-requires : goal.plain_junctions-requires
plain_junctions-requires c =
    let r = resolved_of c.args.resolved in (
      r,
      subst (λ xs. AllByRecursion (λ (j : Junction). AreTrans r j.list) (map junction_of xs))
          (sym c.items-2.ensures) c.requires.junctions,
    )

pub returns : goal.returns
unfolding plain.chart_of
returns c =
    let r = resolved_of c.args.resolved in
    let names = c.args.resolved.names in
    let lists = c.in_ok-lists.lists in
    chart_made (plain.chart_of r) c.args.resolved.shape _ _ _ refl
    (ap (names_with (names_of names)) (c.in_ok-vars.ensures
    ∙ ap (λ vs. plain.with_inits vs c.items-4.result.now) c.items-3.ensures
    ∙ ap (λ xs. plain.with_inits (items_of names.vars) xs) c.items-4.ensures))
    (c.in_ok-nodes.ensures ∙ ap (λ xs. map plain.plain_node (map state_of xs)) c.items.ensures)
    (map_map (λ j. j.items) list_seen lists.items
    ∙ c.in_ok-lists.ensures
    ∙ ap (λ xs. map (λ (j : Junction). plain.plain_list j.list) (map junction_of xs)) c.items-2.ensures)
