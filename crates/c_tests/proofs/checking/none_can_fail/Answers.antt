use Rattle.std.proofs.Common.{◌∙◌, sym}
use Rattle.code_language.specs.Code.{code_of}
use Rattle.c_shape.specs.FileShapes.{tests_seen}
use Rattle.c_tests.proofs.CheckLemmas.{one_more_safe, all_safe}
use Rattle.c_tests.proofs.checking.none_can_fail.Goals as goal

-- none can fail
pub returns : goal.returns
returns c h =
    all_safe (tests_seen c.args.tests.now) (code_of c.args.raw.now) c.args.instrs.now c.loop-instr.instr-index
    c.loop-instr-test.false c.loop-instr.invariant

-- one more can't
pub loop-instr-preserved : goal.loop-instr-preserved
loop-instr-preserved c =
    one_more_safe (tests_seen c.args.tests.now) (code_of c.args.raw.now) c.args.instrs.now c.loop-instr.instr-index
    c.instr-item.result c.loop-instr-test.true c.instr-item.is (sym c.can_fail.ensures ∙ c.if-can_fail.false)
    c.loop-instr.invariant
