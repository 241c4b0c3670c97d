use Rattle.std.proofs.Common.{arith}
use Rattle.c_file.proofs.OrderLemmas.{none_marked, one_marked, one_passed, all_marked}
use Rattle.c_file.proofs.order.mark_early.Goals as goal

pub loop-call-init : goal.loop-call-init
loop-call-init c = none_marked _ _ _
