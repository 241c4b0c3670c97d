use Rattle.std.proofs.Common.{arith}
use Rattle.c_file.proofs.OrderLemmas.{none_first, one_first, all_placed}
use Rattle.c_file.proofs.order.place_all.Goals as goal

pub loop-function-preserved : goal.loop-function-preserved
loop-function-preserved c = c.in_ok-place.ensures.is

pub loop-number-init : goal.loop-number-init
loop-number-init c = none_first _ _ _ c.loop-function.invariant

pub place-requires-in-loop-number : goal.place-requires-in-loop-number
place-requires-in-loop-number c = c.loop-number.invariant.is

pub loop-number-preserved : goal.loop-number-preserved
loop-number-preserved c = one_first _ _ _ _ _ _ c.loop-number.invariant c.in_ok-place-2.ensures

pub returns : goal.returns
returns c =
    all_placed _ _ _ c.loop-number.number (omega (arith, c.loop-number-test.false, c.requires.count))
    c.loop-number.invariant
