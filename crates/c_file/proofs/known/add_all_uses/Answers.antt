use Rattle.std.proofs.Common.{arith}
use Rattle.c_file.proofs.PassLemmas.{passing_starts, passing_goes_on, passing_ends}
use Rattle.c_file.proofs.known.add_all_uses.Goals as goal

pub loop-number-init : goal.loop-number-init
loop-number-init c = passing_starts _ _ _

pub loop-number-preserved : goal.loop-number-preserved
loop-number-preserved c =
    passing_goes_on _ _ _ _ _ _ (omega (arith, c.count-number-end.ensures)) c.loop-number.invariant
    c.in_ok-add_uses.ensures

pub returns : goal.returns
returns c = passing_ends _ _ _ _ _ (omega (arith, c.count-number-end.ensures)) c.loop-number.invariant
