use Rattle.std.proofs.Common.{arith}
use Rattle.range_blocks.proofs.SendLemmas.{get_slice}
use Rattle.range_worlds.proofs.InsideLemmas.{told}
use Rattle.range_check.proofs.CheckLemmas.{accepted_none, accepted_next, accepted_all}
use Rattle.range_check.proofs.check.are_accepted.Goals as goal

pub loop-i-init : goal.loop-i-init
loop-i-init c = accepted_none _ _ _

pub loop-i-preserved : goal.loop-i-preserved
loop-i-preserved c =
    accepted_next c.args.setting.now c.args.ys.now c.args.ends.now c.loop-i.i c.index-ys-i.result
    (get_slice c.args.ys.now c.loop-i.i _ c.loop-i-test.true c.index-ys-i.is)
    (told _ c.if-not-is_accepted.false c.is_accepted.ensures) c.loop-i.invariant

pub returns : goal.returns
returns c = accepted_all _ _ _ _ (omega arith) c.loop-i.invariant
