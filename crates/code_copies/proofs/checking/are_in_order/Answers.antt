use Rattle.code_copies.proofs.CheckLemmas.{lower_first, next_ascends, none_ascend}
use Rattle.code_copies.proofs.checking.are_in_order.Goals as goal

pub loop-copy-init : goal.loop-copy-init
loop-copy-init c all = all

-- the copy at this place is one of no lower procedure
pub loop-copy-preserved : goal.loop-copy-preserved
loop-copy-preserved c others =
    c.loop-copy.invariant
    (next_ascends c.loop-copy.last c.args.copies.now c.loop-copy.copy-index c.copy-item.result c.loop-copy-test.true
    c.copy-item.is c.if-copy-last.false others)

-- none is left
pub returns : goal.returns
returns c t i j =
    let cs = c.args.copies.now in
    λ a b. lower_first 0 cs i j a b
    (c.loop-copy.invariant (none_ascend c.loop-copy.last cs c.loop-copy.copy-index c.loop-copy-test.false))
