use Rattle.std.proofs.Common.{arith}
use Rattle.chart_types.proofs.FaultLemmas.{left_at_first, left_next, left_later, left_none}
use Rattle.chart_types.proofs.pass.with_states.Goals as goal

pub loop-state-init : goal.loop-state-init
loop-state-init c = left_at_first _ _ _ _ _ c.requires

pub with_state-first-requires : goal.with_state-first-requires
with_state-first-requires c =
    left_next _ _ _ _ _ _ _ _ c.loop-state-test.true c.state-item.is c.loop-state.invariant

pub loop-state-preserved : goal.loop-state-preserved
loop-state-preserved c =
    left_later _ _ _ _ _ _ _ _ _ c.loop-state-test.true c.state-item.is
    c.with_state-first.ensures c.loop-state.invariant

pub returns : goal.returns
returns c = left_none _ _ _ _ _ _ _ (omega arith) c.loop-state.invariant
