use Rattle.std.proofs.Common.{arith}
use Rattle.flow_base.specs.Lists.{items_of}
use Rattle.chart_parts.proofs.Turns.{list_turn, list_over}
use Rattle.chart_parts.proofs.transitions.append_transitions.Goals as goal

pub loop-place-preserved : goal.loop-place-preserved
loop-place-preserved c =
    list_turn c.args.owner c.args.list.now c.loop-place.place c.index-list-place.result (items_of c.loop-place.out) _ _
    c.loop-place-test.true c.index-list-place.is c.loop-place.invariant c.in_ok-append_transition.ensures

pub returns : goal.returns
returns c =
    list_over c.args.owner c.args.list.now c.loop-place.place (items_of c.loop-place.out) _
    (omega (arith, c.loop-place-test.false)) c.loop-place.invariant
