use Rattle.range_blocks.proofs.SendLemmas.{get_slice}
use Rattle.range_check.proofs.CheckLemmas.{accepted_at}
use Rattle.range_check.proofs.check.is_accepted.Goals as goal

pub returns-then-has_all : goal.returns-then-has_all
returns-then-has_all c =
    accepted_at c.args.setting.now c.args.y.now c.index-ends-i.result c.args.ends.now c.loop-i.i
    (get_slice c.args.ends.now c.loop-i.i _ c.loop-i-test.true c.index-ends-i.is)
    c.if-has_all.ensures
