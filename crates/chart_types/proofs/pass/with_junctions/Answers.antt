use Rattle.std.proofs.Common.{arith}
use Rattle.chart_types.proofs.FaultLemmas.{left_at_first, left_next, left_later, left_none}
use Rattle.chart_types.proofs.pass.with_junctions.Goals as goal

pub loop-junction-init : goal.loop-junction-init
loop-junction-init c = left_at_first _ _ _ _ _ c.requires

pub with_junction-first-requires : goal.with_junction-first-requires
with_junction-first-requires c =
    left_next _ _ _ _ _ _ _ _ c.loop-junction-test.true c.junction-item.is c.loop-junction.invariant

pub loop-junction-preserved : goal.loop-junction-preserved
loop-junction-preserved c =
    left_later _ _ _ _ _ _ _ _ _ c.loop-junction-test.true c.junction-item.is
    c.with_junction-first.ensures c.loop-junction.invariant

pub returns : goal.returns
returns c = left_none _ _ _ _ _ _ _ (omega arith) c.loop-junction.invariant
