use Rattle.std.proofs.Common.{map, ap, ◌∙◌}
use Rattle.chart_tree.specs.Views.{chart_of}
use Rattle.chart_places.specs.Survey.{placed_of}
use Rattle.chart_scope.proofs.OwnerLemmas.{few_junctions}
use Rattle.chart_scope.proofs.resolution.resolve.Goals as goal

-- the junctions of a chart text are few
pub resolve_placed-requires-clause-few_junctions : goal.resolve_placed-requires-clause-few_junctions
resolve_placed-requires-clause-few_junctions c =
    few_junctions (chart_of c.args.chart.now) c.deref.result.now c.in-Ok-junctions_of.junctions.items
    c.deref-3.result.now
    (ap (map placed_of) c.deref.ensures.value ∙ c.in-Ok.ensures) c.in-Ok-junctions_of.ensures c.deref-3.ensures.value
    c.requires.junctions
