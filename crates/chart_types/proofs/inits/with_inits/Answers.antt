use Rattle.std.proofs.Common.{arith}
use Rattle.chart_types.proofs.FaultLemmas.{inits_at_first, inits_next, inits_later, inits_none}
use Rattle.chart_types.proofs.inits.with_inits.Goals as goal

pub loop-i-init : goal.loop-i-init
loop-i-init c = inits_at_first _ _ _ c.requires.inits

pub with_init-first-requires : goal.with_init-first-requires
with_init-first-requires c = inits_next _ _ _ _ _ _ c.loop-i-test.true c.loop-i.invariant

pub loop-i-preserved : goal.loop-i-preserved
loop-i-preserved c =
    inits_later _ _ _ _ _ _ _ _ (omega arith) c.loop-i-test.true c.with_init-first.ensures
    c.loop-i.invariant

pub returns : goal.returns
returns c = inits_none _ _ _ _ _ (omega arith) c.loop-i.invariant
