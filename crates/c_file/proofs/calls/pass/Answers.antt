use Rattle.std.proofs.Common.{arith}
use Rattle.c_file.proofs.ReachLemmas.{found_before, found_now, pass_next, pass_done}
use Rattle.c_file.proofs.calls.pass.Goals as goal
use Rattle.c_file.proofs.calls.pass.Goals.{then-found, else-found}

pub loop-call-preserved : goal.loop-call-preserved
loop-call-preserved c =
    pass_next c.args.calls.now c.loop-call.call-index _ c.loop-call.flags _ _ c.loop-call.found _ _ _
    (omega arith) c.follow-is_new.ensures.flags c.follow-is_new.ensures.new
    (elim c.if-found.branch [
      | then-found w ↦ found_before c.loop-call.found c.follow-is_new.result c.if-found.found w.if-found.true w.found-is
      | else-found w ↦ found_now c.loop-call.found c.follow-is_new.result c.if-found.found w.if-found.false w.found-is
    ]) c.loop-call.invariant

pub returns : goal.returns
returns c =
    let done = pass_done c.args.calls.now c.loop-call.call-index _ _ _ _ c.loop-call-test.false c.loop-call.invariant in
    record { flags = done.0; new = done.1 }
