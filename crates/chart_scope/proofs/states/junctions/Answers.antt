use Rattle.std.proofs.Common.{refl, arith}
use Rattle.chart_places.specs.Survey.{owned_of}
use Rattle.resolved_tree.specs.Views as views
use Rattle.chart_scope.specs.Names.{used_in_junctions}
use Rattle.chart_scope.specs.Resolution.{resolved_junction}
use Rattle.chart_scope.specs.Uses.{list_faults}
use Rattle.chart_scope.proofs.LoopLemmas.{one_more_made, one_more_found}
use Rattle.chart_scope.proofs.states.junctions.Goals as goal

-- one more junction is built, and its faults are no longer to come
pub loop-owned-preserved : goal.loop-owned-preserved
loop-owned-preserved c =
    let p = c.args.scopes.now in
    record {
      built = one_more_made views.junction_of (resolved_junction p) owned_of _ _ c.in_ok-junction.field-0
          c.args.junctions.now c.owned-item.result c.loop-owned.owned-index (omega arith) c.owned-item.is
          c.in_ok-push.ensures.items c.in_ok-junction.ensures.built c.loop-owned.invariant.built;
      kept = one_more_found (used_in_junctions p) (λ o. list_faults p o.owner o.junction.list) (λ o os. refl) owned_of
          _ _ _ c.args.junctions.now c.owned-item.result c.loop-owned.owned-index (omega arith) c.owned-item.is
          c.in_ok-junction.ensures.kept c.loop-owned.invariant.kept;
    }
