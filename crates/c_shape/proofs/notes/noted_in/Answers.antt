use Rattle.std.proofs.lemmas.Result.{IfOk-weaker}
use Rattle.flow_base.specs.Lists.{items_of}
use Rattle.c_shape.proofs.NoteLemmas.{noted_result}
use Rattle.c_shape.proofs.notes.noted_in.Goals as goal

pub returns : goal.returns
returns c =
    IfOk-weaker c.numbers_of.result _ _
    (λ x h. noted_result c.args.procs.now c.loop-proc.proc-index c.loop-proc.flags.items c.deref.result.now (items_of x)
    c.loop-proc-test.false c.loop-proc.invariant.size c.loop-proc.invariant.marked c.deref.ensures.value h)
    c.numbers_of.ensures
