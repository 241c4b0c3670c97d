use Rattle.std.proofs.Common.{◌≡◌, List, [], ◌∷◌, ◌++◌, map, refl, ◌∙◌, sym, arith}
use Rattle.chart_tree.specs.Views.{dest_of}
use Rattle.statechart_tree.specs.Views.{stmt_of}
use Rattle.statechart_names.specs.Seen.{scope_seen}
use Rattle.statechart_transitions.proofs.TurnLemmas.{turn-again, turn-other}
use Rattle.statechart_transitions.proofs.transitions.push_cases.Goals as goal
use Rattle.statechart_transitions.proofs.transitions.push_cases.Goals.{then-not-is_again+in_ok-case_transition+in_ok-push}
use Rattle.statechart_transitions.proofs.transitions.push_cases.Goals.{else-not-is_again}

-- one case more has its transition, or stands before
pub loop-index-preserved : goal.loop-index-preserved
loop-index-preserved c =
    let s = scope_seen c.args.scope.now in
    let cond = map stmt_of c.args.shared.cond.now in
    let act = map stmt_of c.args.shared.act.now in
    let dest = dest_of c.args.shared.dest.now in
    elim c.if-not-is_again.branch [
      | then-not-is_again+in_ok-case_transition+in_ok-push w ↦
          turn-other s c.args.shared.at cond act dest c.loop-index.into.items c.if-not-is_again.into.items
          w.in_ok-case_transition.field-0 c.args.cases.now c.loop-index.index c.index-cases-index.result _ (omega arith)
          c.index-cases-index.is (sym c.is_again.ensures ∙ w.if-not-is_again.true)
          (rw w.into-is w.in_ok-push.ensures.items) w.in_ok-case_transition.ensures c.loop-index.invariant
      | else-not-is_again w ↦
          turn-again s c.args.shared.at cond act dest c.loop-index.into.items c.if-not-is_again.into.items
          c.args.cases.now c.loop-index.index c.index-cases-index.result _ (omega arith) c.index-cases-index.is
          (sym c.is_again.ensures ∙ w.if-not-is_again.false) (rw w.into-is refl) c.loop-index.invariant
    ]
