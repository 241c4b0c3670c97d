use Rattle.std.proofs.Common.{Some, refl, subst}
use Rattle.code_language.specs.Code.{code_of, cond_of}
use Rattle.code_copies.specs.Facts.{after_mark}
use Rattle.code_copies.specs.Views.{facts_of, place_of, places_of, plan_of}
use Rattle.code_copies.specs.Made.{plan_setting, HandsOn, TestHandsOn}
use Rattle.code_copies.proofs.CheckLemmas.{hands_by, right_for}
use Rattle.code_copies.proofs.checking.is_instr_right.Goals as goal

-- what comes next is handed on
pub returns-in-Mark : goal.returns-in-Mark
returns-in-Mark c t =
    let sets = c.args.plan.now.sets.items in
    let S = plan_setting (plan_of c.args.plan.now) (code_of c.args.code.now).procedures in
    right_for S (place_of sets c.args.place) (places_of sets c.args.rest.now) c.args.instr.now _ c.in-Mark.is
    (subst (λ ss. HandsOn (after_mark c.args.plan.now.keeps_root c.in-Mark.state (facts_of ss c.args.place.facts))
    (places_of ss c.args.rest.now) 0) c.deref.ensures.value (c.mark_hands_on.ensures t))

pub returns-in-Unless : goal.returns-in-Unless
returns-in-Unless c t =
    let sets = c.args.plan.now.sets.items in
    let S = plan_setting (plan_of c.args.plan.now) (code_of c.args.code.now).procedures in
    right_for S (place_of sets c.args.place) (places_of sets c.args.rest.now) c.args.instr.now _ c.in-Unless.is
    (subst (λ ss. TestHandsOn c.args.plan.now.keeps_root (facts_of ss c.args.place.facts) c.in-Unless.over
    (cond_of c.in-Unless.cond) (places_of ss c.args.rest.now)) c.deref-in-Unless.ensures.value
    (c.test_hands_on.ensures t))

pub returns-in-Skip : goal.returns-in-Skip
returns-in-Skip c t =
    let sets = c.args.plan.now.sets.items in
    let S = plan_setting (plan_of c.args.plan.now) (code_of c.args.code.now).procedures in
    right_for S (place_of sets c.args.place) (places_of sets c.args.rest.now) c.args.instr.now _ c.in-Skip.is
    (hands_by sets c.deref-in-Skip.result.now c.args.place.facts c.args.rest.now c.in-Skip.over
    c.deref-in-Skip.ensures.value (c.hands_on.ensures t))

pub returns-in-Home : goal.returns-in-Home
returns-in-Home c t =
    let sets = c.args.plan.now.sets.items in
    let S = plan_setting (plan_of c.args.plan.now) (code_of c.args.code.now).procedures in
    right_for S (place_of sets c.args.place) (places_of sets c.args.rest.now) c.args.instr.now _ c.in-Home.is
    (hands_by sets c.deref-in-Home.result.now (record c.args.place.facts { home = Some c.in-Home.home })
    c.args.rest.now 0 c.deref-in-Home.ensures.value (c.hands_on-in-Home.ensures t))

pub returns-in-Ret : goal.returns-in-Ret
returns-in-Ret c t =
    let sets = c.args.plan.now.sets.items in
    let S = plan_setting (plan_of c.args.plan.now) (code_of c.args.code.now).procedures in
    right_for S (place_of sets c.args.place) (places_of sets c.args.rest.now) c.args.instr.now _ c.in-Ret.is tt

-- so is what is named
pub returns-then-send_serves : goal.returns-then-send_serves
returns-then-send_serves c t =
    let sets = c.args.plan.now.sets.items in
    let S = plan_setting (plan_of c.args.plan.now) (code_of c.args.code.now).procedures in
    right_for S (place_of sets c.args.place) (places_of sets c.args.rest.now) c.args.instr.now _ c.in-Send.is (
      c.if-send_serves.ensures refl,
      hands_by sets c.deref-then-send_serves.result.now c.args.place.facts c.args.rest.now 0
          c.deref-then-send_serves.ensures.value (c.hands_on-then-send_serves.ensures t),
    )

pub returns-then-serves : goal.returns-then-serves
returns-then-serves c t =
    let sets = c.args.plan.now.sets.items in
    let S = plan_setting (plan_of c.args.plan.now) (code_of c.args.code.now).procedures in
    right_for S (place_of sets c.args.place) (places_of sets c.args.rest.now) c.args.instr.now _ c.in-SendTo.is (
      c.if-serves.ensures refl,
      hands_by sets c.deref-then-serves.result.now c.args.place.facts c.args.rest.now 0
          c.deref-then-serves.ensures.value (c.hands_on-then-serves.ensures t),
    )

-- where it isn't, nothing is said
pub returns-else-send_serves : goal.returns-else-send_serves
returns-else-send_serves c t = absurd (cc t)

pub returns-else-serves : goal.returns-else-serves
returns-else-serves c t = absurd (cc t)

pub returns-else-call_serves : goal.returns-else-call_serves
returns-else-call_serves c t = absurd (cc t)
