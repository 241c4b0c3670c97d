use Rattle.std.proofs.Common.{drop}
use Rattle.c_file.specs.Made.{functions_of}
use Rattle.c_file.proofs.OrderLemmas.{AreEarlySoFar}
use Rattle.c_file.proofs.order.stand_all.Given as goal

-- with the functions to come the flags are as they will be
abbrev pub invariant-loop-number : goal.invariant-loop-number
invariant-loop-number l =
    AreEarlySoFar (functions_of l.made) l.stands l.early (drop l.number-index l.order) l.order
