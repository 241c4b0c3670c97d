use Rattle.std.proofs.Common.{map, refl, ap, arith}
use Rattle.sos_interpreter.proofs.Turns.{gathered, gathered_one}
use Rattle.checked_chart.specs.Views.{block_seen}
use Rattle.sos_interpreter.proofs.searches.actions_on.Goals as goal

pub loop-place-init : goal.loop-place-init
loop-place-init c = ap (map (λ a. block_seen a.now)) c.new-actions.ensures.items

pub loop-place-preserved : goal.loop-place-preserved
loop-place-preserved c =
    gathered_one (λ a. block_seen a.now) (λ p. block_seen p.action.now) _ _ c.place-item.result.action c.args.places.now
    c.loop-place.place-index c.place-item.result c.in_ok-push_action.ensures.ok c.loop-place.invariant (omega arith)
    c.place-item.is refl

pub returns-clause-ok : goal.returns-clause-ok
returns-clause-ok c =
    gathered (λ a. block_seen a.now) (λ p. block_seen p.action.now) _ _ c.args.last c.args.places.now c.args.places.now
    c.loop-place.place-index c.in_ok-push_action-2.ensures.ok c.loop-place.invariant (omega arith) refl
