use Rattle.std.proofs.Common.{arith, ap, map, ◌∙◌}
use Rattle.std.proofs.lemmas.List.{map-append}
use Rattle.resolved_tree.specs.Views as views
use Rattle.chart_scope.proofs.StateLemmas.{one_more_state, one_more_searched}
use Rattle.chart_scope.proofs.states.states.Goals as goal

-- one more state is built, and its faults are no longer to come
pub loop-number-preserved : goal.loop-number-preserved
loop-number-preserved c = record {
  built = one_more_state c.args.scopes.now _ _ _ (views.state_of c.in_ok-state.field-0) c.loop-number.number
      c.args.states.now c.index-states-number.result (omega arith) c.index-states-number.is
      (ap (map views.state_of) c.in_ok-push.ensures.items ∙ map-append views.state_of _ _)
      c.in_ok-state.ensures.built c.loop-number.invariant.built;
  kept = one_more_searched c.args.scopes.now _ _ _ c.loop-number.number c.args.states.now c.index-states-number.result
      (omega arith) c.index-states-number.is c.in_ok-state.ensures.kept c.loop-number.invariant.kept;
}
