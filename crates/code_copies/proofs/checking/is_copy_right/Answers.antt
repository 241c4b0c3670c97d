use Rattle.std.proofs.Common.{refl}
use Rattle.code_copies.proofs.CheckLemmas.{item_there, copy_right}
use Rattle.code_copies.proofs.checking.is_copy_right.Goals as goal

-- the procedure is there, and so are its places
pub returns-then-hands_on : goal.returns-then-hands_on
returns-then-hands_on c t =
    let found = c.in-Some.ensures.lookup in
    copy_right c.args.plan.now c.args.code.now c.args.copy.now c.in-Some.instrs.now c.deref.result.now
    c.deref-in-Some.result.now c.deref-then-hands_on.result.now c.items-then-hands_on.result.now c.deref.ensures.value
    c.deref-in-Some.ensures.value c.deref-then-hands_on.ensures.value c.items-then-hands_on.ensures
    (item_there c.items.result.now _ c.args.copy.now.key.proc c.in-Some.instrs.now c.items.ensures found.3.0 found.1)
    (c.if-hands_on.ensures refl) (c.are_places_right.ensures t)

-- where one isn't, nothing is said
pub returns-else-hands_on : goal.returns-else-hands_on
returns-else-hands_on c t = absurd (cc t)

pub returns-in-None : goal.returns-in-None
returns-in-None c t = absurd (cc t)
