use Rattle.std.proofs.Common.{arith}
use Rattle.c_text.specs.Reading.{same_local}
use Rattle.c_text.proofs.LoopLemmas.{item_decides, item_passes, none_holds}
use Rattle.c_text.proofs.functions.is_among.Goals as goal

pub returns-then-is_same_local : goal.returns-then-is_same_local
returns-then-is_same_local c =
    item_decides (same_local c.args.local) c.args.seen.now c.loop-other.other-index
    _ _ _ (omega arith) c.is_same_local.ensures c.if-is_same_local.true c.loop-other.invariant

pub loop-other-preserved : goal.loop-other-preserved
loop-other-preserved c =
    item_passes (same_local c.args.local) c.args.seen.now c.loop-other.other-index
    _ _ _ (omega arith) c.is_same_local.ensures c.if-is_same_local.false c.loop-other.invariant

pub returns : goal.returns
returns c = none_holds (same_local c.args.local) c.args.seen.now c.loop-other.other-index _ (omega arith)
    c.loop-other.invariant
