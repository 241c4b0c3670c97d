use Rattle.std.proofs.Common.{refl, ◌∙◌}
use Rattle.c_decided.specs.Views.{plan_of}
use Rattle.c_shape.specs.FileShapes.{shape_seen}
use Rattle.c_passes.proofs.PlanLemmas.{checked_for}
use Rattle.c_passes.proofs.deciding.fitting.Goals as goal

pub returns-then-is_between : goal.returns-then-is_between
returns-then-is_between c =
    let K = shape_seen c.args.shape.now in
    c.checked_plans_fit_between.ensures K (plan_of c.args.plan)
    (checked_for K (plan_of c.args.plan) c.outside.result.init c.outside.result.start c.outside.result.react
    c.used_field.result c.deref.result.now c.outside.ensures.init c.outside.ensures.start c.outside.ensures.react
    c.used_field.ensures (c.deref.ensures.value ∙ c.in_ok-types.ensures) (c.if-is_between.ensures refl))
