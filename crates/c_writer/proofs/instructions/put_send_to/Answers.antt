use Rattle.std.proofs.Common.{◌∙◌}
use Rattle.std.proofs.lemmas.Result.{on_ok_weaker}
use Rattle.c_functions.specs.Statements as plan
use Rattle.c_functions.specs.Written.{on_check}
use Rattle.c_functions.specs.Plans.{pay_c, plan_c}
use Rattle.c_shape.specs.FileShapes.{shape_seen}
use Rattle.c_writer.proofs.instructions.put_send_to.Goals as goal

pub returns : goal.returns
unfolding plan_c
returns c =
    let K = shape_seen c.args.shape.now in
    let sent = λ (a : plan.Block).
    plan.If (plan.Simple (on_check K.tree K.numbers c.args.state)) (plan.Send c.args.event c.args.procedure plan.End)
    plan.End a in
    on_ok_weaker c.put_send_if_active.result
    (λ h a. h a ∙ c.in_ok-put_pay.ensures (plan_c K (sent a)) ∙ c.in_ok-put_deep.ensures (pay_c K (plan_c K (sent a))))
    c.put_send_if_active.ensures
