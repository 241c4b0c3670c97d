use Rattle.std.proofs.Common.{drop}
use Rattle.c_file.proofs.OrderLemmas.{AreMarked}
use Rattle.c_file.proofs.order.mark_early.Given as goal

-- with the calls to come the flags are as they will be
abbrev pub invariant-loop-call : goal.invariant-loop-call
invariant-loop-call l = AreMarked l.stands l.fn.early l.early (drop l.call-index l.calls) l.calls
