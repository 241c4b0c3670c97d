use Rattle.std.proofs.Common.{arith}
use Rattle.flow_base.specs.Lists.{items_of}
use Rattle.chart_parts.specs.declared.part.Part.TheVariants.{Way}
use Rattle.chart_parts.proofs.Turns.{span_turn, span_over}
use Rattle.chart_parts.proofs.groups.append_ways.Goals as goal

pub loop-dest-preserved : goal.loop-dest-preserved
loop-dest-preserved c =
    span_turn (Way c.args.toward c.args.state) c.loop-dest.dest _ (items_of c.loop-dest.out) _ _ c.loop-dest-test.true
    c.loop-dest.invariant c.in_ok-push.ensures.ok

pub returns : goal.returns
returns c =
    span_over (Way c.args.toward c.args.state) c.loop-dest.dest _ (items_of c.loop-dest.out) _
    (omega (arith, c.loop-dest-test.false)) c.loop-dest.invariant
