use Rattle.std.proofs.Common.{◌≡◌, ◌+◌, ◌-◌, ◌<◌, ◌∙◌, length, sym, subst, arith}
use Rattle.std.specs.Prelude.{slice_index}
use Rattle.code_language.proofs.MeasureLemmas.{LeftFrom, left_none, left_more, left_all}
use Rattle.code_language.proofs.works.work_of.Goals as goal

pub loop-place-init : goal.loop-place-init
loop-place-init c =
    rw c.new-lefts.ensures.items (left_none (slice_index c.args.works.now) c.args.instrs.now _ (omega arith))

pub loop-place-preserved : goal.loop-place-preserved
loop-place-preserved c =
    let w = slice_index c.args.works.now in
    let xs = c.args.instrs.now in
    let place = c.loop-place.place - 1 in
    let test = c.loop-place-test.true in
    let back : place + 1 ≡ c.loop-place.place = omega arith in
    let so_far = subst (λ k. LeftFrom w xs k c.loop-place.lefts.items) (sym back) c.loop-place.invariant in
    let within : place < length xs = omega (arith, c.loop-place.invariant.size) in
    let here = rw c.deref.ensures.value at c.work_from-left.ensures.work in
    let le = rw c.deref.ensures.value at c.work_from-left.ensures.bounded in
    rw c.in_ok-push.ensures.items
    (left_more w xs place c.index-instrs-place.result c.work_from-left.result c.loop-place.lefts.items so_far within
    c.index-instrs-place.is here le)

pub returns : goal.returns
returns c =
    let none : c.loop-place.place ≡ 0 = let test = c.loop-place-test.false in omega arith in
    let read = rw c.deref-2.ensures.value at c.left_past.ensures in
    read ∙ left_all (slice_index c.args.works.now) c.args.instrs.now c.loop-place.place c.loop-place.lefts.items c.loop-place.invariant none
