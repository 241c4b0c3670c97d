use Rattle.std.proofs.Common.{Option, subst}
use Rattle.c_decided.specs.Views.{plan_of}
use Rattle.c_decided.specs.declared.plan.Plan.{Plan}
use Rattle.c_shape.specs.FileShapes.{shape_seen}
use Rattle.c_passes.specs.Deciding.{FitsBetween}
use Rattle.c_passes.proofs.PassLemmas.{as_decided}
use Rattle.c_passes.proofs.deciding.decided.Goals as goal

pub returns-in-Ok : goal.returns-in-Ok
returns-in-Ok c =
    let K = shape_seen c.args.shape.now in
    λ file are. as_decided K file c.args.functions.items c.in-Ok.made.items are (plan_of c.in-Some.plan)
    (subst (λ (found : Option Plan). FitsBetween K found) c.in-Some.is c.in_ok-plan.ensures) c.in-Ok.ensures
