use Rattle.std.proofs.Common.{arith}
use Rattle.chart_types.proofs.FaultLemmas.{left_at_first, left_next, left_later, left_none}
use Rattle.chart_types.proofs.transitions.with_list.Goals as goal

pub loop-trans-init : goal.loop-trans-init
loop-trans-init c = left_at_first _ _ _ _ _ c.requires

pub with_trans-first-requires : goal.with_trans-first-requires
with_trans-first-requires c =
    left_next _ _ _ _ _ _ _ _ c.loop-trans-test.true c.trans-item.is c.loop-trans.invariant

pub loop-trans-preserved : goal.loop-trans-preserved
loop-trans-preserved c =
    left_later _ _ _ _ _ _ _ _ _ c.loop-trans-test.true c.trans-item.is
    c.with_trans-first.ensures c.loop-trans.invariant

pub returns : goal.returns
returns c = left_none _ _ _ _ _ _ _ (omega arith) c.loop-trans.invariant
