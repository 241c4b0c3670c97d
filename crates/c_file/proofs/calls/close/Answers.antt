use Rattle.c_file.proofs.ReachLemmas.{closing_starts, closing_goes_on, closing_less, closing_ends}
use Rattle.c_file.proofs.calls.close.Goals as goal

pub loop-goes_on-init : goal.loop-goes_on-init
loop-goes_on-init c = closing_starts _ _

pub loop-goes_on-preserved : goal.loop-goes_on-preserved
loop-goes_on-preserved c =
    closing_goes_on _ _ _ _ _ _ c.loop-goes_on.invariant c.pass-goes_on.ensures.flags c.pass-goes_on.ensures.new

pub loop-goes_on-smaller : goal.loop-goes_on-smaller
loop-goes_on-smaller c =
    closing_less c.args.calls.now _ _ _ _ c.loop-goes_on-test.true c.pass-goes_on.ensures.flags
    c.pass-goes_on.ensures.new

pub returns : goal.returns
returns c = closing_ends _ _ _ _ c.loop-goes_on-test.false c.loop-goes_on.invariant
