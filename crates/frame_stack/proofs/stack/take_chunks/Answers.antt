use Rattle.std.proofs.Common.{All, subst, sym, arith}
use Rattle.std.proofs.lemmas.List.Elements.{All-push}
use Rattle.frame_stack.specs.Chunks.{IsFree}
use Rattle.frame_stack.proofs.stack.take_chunks.Goals as goal

pub give_back-requires : goal.give_back-requires
give_back-requires c = subst IsFree (sym c.in-Err-push.ensures.value_returned) c.in-Ok.ensures

pub give_all_back-requires : goal.give_all_back-requires
give_all_back-requires c = subst (All IsFree) (sym c.in-Err-push.ensures.items) c.loop.invariant.0

pub give_all_back-requires-in-Err : goal.give_all_back-requires-in-Err
give_all_back-requires-in-Err c = c.loop.invariant.0

pub loop-preserved : goal.loop-preserved
loop-preserved c = (
  subst
      (All IsFree)
      (sym c.in_default.ensures.items)
      (All-push IsFree c.loop.taken.items c.in-Ok.chunk c.loop.invariant.0 c.in-Ok.ensures),
  omega (arith, c.in_default.ensures.len, c.loop.invariant.1),
)

pub returns : goal.returns
returns c = (c.loop.invariant.0, omega (arith, c.loop.invariant.1, c.loop-test.false, c.loop.auto.counter-end))
