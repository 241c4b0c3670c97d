use Rattle.std.proofs.Common.{◌≡◌, [], arith, refl}
use Rattle.std.proofs.lemmas.List.{nil_from_length}
use Rattle.range_worlds.proofs.Leading.{leads_more, underway_first, underway_step, underway_last}
use Rattle.range_worlds.proofs.StepLemmas.{guard_leads, sides_are, sides_more}
use Rattle.range_worlds.proofs.steps.guard.Goals as goal

pub loop-x-init : goal.loop-x-init
loop-x-init c = underway_first _ _ _ _ _ refl

pub loop-x-preserved : goal.loop-x-preserved
loop-x-preserved c =
    underway_step _ _ _ _ _ c.in-Some.x _ _ c.in-Some.ensures.items
    (sides_more c.args.setting.now _ _ _ _ (λ w h. c.in_ok-yes.ensures.kept w h) (λ w h. c.in_ok-no.ensures.kept w h))
    (guard_leads _ _ _ _ _ _ _ _ _ _ c.in_ok-known.ensures c.may_be-may.ensures c.may_be-may_not.ensures
    c.in_ok-yes.ensures c.in_ok-no.ensures) c.loop-x.invariant

pub returns : goal.returns
returns c =
    let empty : c.loop-x.left.items ≡ [] =
    nil_from_length _ (omega (arith, c.in_default.ensures.cases, c.loop-x.left.ok.0)) in
    leads_more _ _ _ _ _ (sides_are c.args.setting.now (record { yes = c.loop-x.yes; no = c.loop-x.no }))
    (underway_last _ _ _ _ _ empty c.loop-x.invariant)
