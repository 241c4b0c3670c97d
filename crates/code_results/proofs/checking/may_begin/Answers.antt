use Rattle.std.proofs.Common.{◌≤◌, length, ap, subst}
use Rattle.code_results.specs.Results.{may_be}
use Rattle.code_results.proofs.CheckLemmas.{MayBegin, below_more, begins_at, all_begin}
use Rattle.code_results.proofs.checking.may_begin.Goals as goal

-- each procedure may begin
pub returns : goal.returns
returns c h p r =
    let places = c.args.plan.now.places.items in
    let test = c.loop-places-test.false in
    let size : length places ≤ c.loop-places.places-index =
    subst (λ l. length l ≤ c.loop-places.places-index) c.deref-places-items.ensures.value test in
    ap (λ s. may_be s r) (all_begin places c.loop-places.places-index size c.loop-places.invariant p)

-- one more procedure may
pub loop-places-preserved : goal.loop-places-preserved
loop-places-preserved c =
    let places = c.args.plan.now.places.items in
    below_more (MayBegin places) c.loop-places.places-index c.loop-places.invariant
    (begins_at places c.deref-places-items.result.now c.loop-places.places-index c.places-item.result
    c.deref.result.now c.deref-places-items.ensures.value c.loop-places-test.true c.places-item.is c.deref.ensures.value
    (c.is_any_first.ensures c.if-not-is_any_first.false))
