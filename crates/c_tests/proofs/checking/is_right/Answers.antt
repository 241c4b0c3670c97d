use Rattle.c_shape.specs.FileShapes.{tests_seen}
use Rattle.c_tests.proofs.CheckLemmas.{one_more_right, all_right}
use Rattle.c_tests.proofs.checking.is_right.Goals as goal

-- each procedure is right
pub returns : goal.returns
returns c h =
    all_right (tests_seen c.args.tests.now) c.args.raw.now c.loop-proc.proc c.items-instrs-items.result.now
    c.items-instrs-items.ensures c.loop-proc-test.false c.loop-proc.invariant

-- one more is right
pub loop-proc-preserved : goal.loop-proc-preserved
loop-proc-preserved c =
    one_more_right (tests_seen c.args.tests.now) c.args.raw.now c.items-instrs-items.result.now c.loop-proc.proc
    c.instrs-item.result c.items.result.now c.items-instrs-items.ensures c.loop-proc-test.true c.instrs-item.is
    c.items.ensures (c.is_procedure_right.ensures c.if-not-is_procedure_right.false) c.loop-proc.invariant
