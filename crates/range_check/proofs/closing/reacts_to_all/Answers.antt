use Rattle.std.proofs.Common.{◌∙◌, ap, arith}
use Rattle.actions.specs.Names.{Names}
use Rattle.range_blocks.proofs.SendLemmas.{get_slice}
use Rattle.range_worlds.proofs.InsideLemmas.{told}
use Rattle.range_check.proofs.CloseLemmas.{reacts_first, reacts_next, reacts_all}
use Rattle.range_check.proofs.closing.reacts_to_all.Goals as goal

pub loop-number-init : goal.loop-number-init
loop-number-init c = reacts_first _ _ _ (told _ c.if-not-tick.false c.in_ok-tick.ensures)

pub loop-number-preserved : goal.loop-number-preserved
loop-number-preserved c =
    reacts_next _ _ _ c.loop-number.number c.index-events-number.result
    (get_slice _ c.loop-number.number _ c.loop-number-test.true c.index-events-number.is)
    (told _ c.if-not-right.false c.in_ok-right.ensures) c.loop-number.invariant

pub returns : goal.returns
returns c =
    reacts_all _ _ c.items-events.result.now c.loop-number.number
    (c.items-events.ensures ∙ ap (λ (n : Names). n.events) c.names.ensures.names) (omega arith)
    c.loop-number.invariant
