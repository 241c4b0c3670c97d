use Rattle.code_notes.specs.Views.{plan_of}
use Rattle.code_notes.proofs.CheckLemmas.{one_more_right, all_instrs_right}
use Rattle.code_notes.proofs.checking.is_procedure_right.Goals as goal

-- each instruction is right
pub returns : goal.returns
returns c h =
    all_instrs_right (plan_of c.args.plan.now) c.args.proc c.loop-place.place c.args.instrs.now
    c.loop-place-test.false c.loop-place.invariant

-- one more is right
pub loop-place-preserved : goal.loop-place-preserved
loop-place-preserved c =
    one_more_right (plan_of c.args.plan.now) c.args.proc c.loop-place.place c.args.instrs.now
    c.index-instrs-place.result c.loop-place-test.true c.index-instrs-place.is
    (c.is_place_right.ensures c.if-not-is_place_right.false) c.loop-place.invariant
