use Rattle.std.proofs.Common.{refl, arith}
use Rattle.chart_tree.specs.Views as texts
use Rattle.resolved_tree.specs.Views as views
use Rattle.chart_scope.specs.Uses.{resolved_stmt, stmt_faults, block_faults}
use Rattle.chart_scope.proofs.LoopLemmas.{one_more_made, one_more_found}
use Rattle.chart_scope.proofs.statements.block.Goals as goal

-- one more statement is built, and its faults are no longer to come
pub loop-text-preserved : goal.loop-text-preserved
loop-text-preserved c =
    let p = c.args.scopes.now in
    let s = c.args.state in
    record {
      built = one_more_made views.stmt_of (resolved_stmt p s) texts.stmt_of _ _ c.in_ok-stmt.field-0 c.args.stmts.now
          c.text-item.result c.loop-text.text-index (omega arith) c.text-item.is c.in_ok-push.ensures.items
          c.in_ok-stmt.ensures.built c.loop-text.invariant.built;
      kept = one_more_found (block_faults p s) (stmt_faults p s) (λ x xs. refl) texts.stmt_of _ _ _ c.args.stmts.now
          c.text-item.result c.loop-text.text-index (omega arith) c.text-item.is c.in_ok-stmt.ensures.kept
          c.loop-text.invariant.kept;
    }
