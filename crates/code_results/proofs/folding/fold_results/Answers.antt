use Rattle.std.proofs.Common.{refl, subst}
use Rattle.code_language.specs.Code.{code_of}
use Rattle.code_language.specs.declared.code.RawCode.{RawCode}
use Rattle.code_results.specs.Folded.{PlanIsRight, AsItWas, ByPlan}
use Rattle.code_results.specs.Views.{plan_of}
use Rattle.code_copies.proofs.SameRunsLemmas.{same_itself}
use Rattle.code_results.proofs.RawLemmas.{folded_size, folded_same}
use Rattle.code_results.proofs.folding.fold_results.Goals as goal

-- the code as it was
pub returns-then-not-is_right-clause-folded : goal.returns-then-not-is_right-clause-folded
returns-then-not-is_right-clause-folded c = AsItWas refl

pub returns-then-not-is_right-clause-same : goal.returns-then-not-is_right-clause-same
returns-then-not-is_right-clause-same c = same_itself (code_of c.args.code) c.raw.ensures.well_formed

-- the code by the plan
pub returns-clause-folded : goal.returns-clause-folded
returns-clause-folded c =
    let P = plan_of c.in_ok-plan.plan in
    ByPlan P
    (subst (λ (raw : RawCode). PlanIsRight P (code_of raw)) c.raw-2.ensures.raw
    (c.is_right.ensures c.if-not-is_right.false))
    c.in_ok-made.ensures

pub returns-clause-same : goal.returns-clause-same
returns-clause-same c =
    let P = plan_of c.in_ok-plan.plan in
    folded_same (code_of c.args.code) (code_of c.in_ok-made.made) c.raw.ensures.well_formed
    (ByPlan P
    (subst (λ (raw : RawCode). PlanIsRight P (code_of raw)) c.raw-2.ensures.raw
    (c.is_right.ensures c.if-not-is_right.false))
    c.in_ok-made.ensures)

pub returns-clause-size : goal.returns-clause-size
returns-clause-size c =
    let P = plan_of c.in_ok-plan.plan in
    folded_size (code_of c.args.code) (code_of c.in_ok-made.made)
    (ByPlan P
    (subst (λ (raw : RawCode). PlanIsRight P (code_of raw)) c.raw-2.ensures.raw
    (c.is_right.ensures c.if-not-is_right.false))
    c.in_ok-made.ensures)
