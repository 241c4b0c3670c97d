use Rattle.std.proofs.Common.{arith}
use Rattle.chart_types.proofs.FaultLemmas.{left_at_first, left_next, left_later, left_none}
use Rattle.chart_types.proofs.statements.with_block.Goals as goal

pub loop-stmt-init : goal.loop-stmt-init
loop-stmt-init c = left_at_first _ _ _ _ _ c.requires

pub with_stmt-first-requires : goal.with_stmt-first-requires
with_stmt-first-requires c =
    left_next _ _ _ _ _ _ _ _ c.loop-stmt-test.true c.stmt-item.is c.loop-stmt.invariant

pub loop-stmt-preserved : goal.loop-stmt-preserved
loop-stmt-preserved c =
    left_later _ _ _ _ _ _ _ _ _ c.loop-stmt-test.true c.stmt-item.is
    c.with_stmt-first.ensures c.loop-stmt.invariant

pub returns : goal.returns
returns c = left_none _ _ _ _ _ _ _ (omega arith) c.loop-stmt.invariant
