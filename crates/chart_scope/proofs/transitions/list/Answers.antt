use Rattle.std.proofs.Common.{refl, arith}
use Rattle.chart_tree.specs.Views as texts
use Rattle.resolved_tree.specs.Views as views
use Rattle.chart_scope.specs.Uses.{resolved_trans, trans_faults, list_faults}
use Rattle.chart_scope.proofs.LoopLemmas.{one_more_made, one_more_found}
use Rattle.chart_scope.proofs.transitions.list.Goals as goal

-- one more transition is built, and its faults are no longer to come
pub loop-text-preserved : goal.loop-text-preserved
loop-text-preserved c =
    let p = c.args.scopes.now in
    let s = c.args.state in
    record {
      built = one_more_made views.trans_of (resolved_trans p s) texts.trans_of _ _ c.in_ok-trans.field-0 c.args.list.now
          c.text-item.result c.loop-text.text-index (omega arith) c.text-item.is c.in_ok-push.ensures.items
          c.in_ok-trans.ensures.built c.loop-text.invariant.built;
      kept = one_more_found (list_faults p s) (trans_faults p s) (λ t ts. refl) texts.trans_of _ _ _ c.args.list.now
          c.text-item.result c.loop-text.text-index (omega arith) c.text-item.is c.in_ok-trans.ensures.kept
          c.loop-text.invariant.kept;
    }
