use Rattle.std.proofs.Common.{arith, refl}
use Rattle.range_blocks.proofs.SendLemmas.{copying_first, copying_step, copying_last}
use Rattle.range_blocks.proofs.sends.gathered.Goals as goal

pub loop-end-init : goal.loop-end-init
loop-end-init c = copying_first _ _ _ _ refl

pub loop-end-preserved : goal.loop-end-preserved
loop-end-preserved c =
    copying_step _ _ _ _ _ _ c.end-item.result _ c.end-item.is c.in_ok-same.ensures.0 c.in_ok-same.ensures.1
    c.in_ok-both.ensures c.loop-end.invariant

pub returns : goal.returns
returns c = copying_last _ _ _ _ _ (omega arith) c.loop-end.invariant
