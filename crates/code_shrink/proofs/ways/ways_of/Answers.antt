use Rattle.std.proofs.Common.{◌≡◌, ◌+◌, ◌-◌, ◌<◌, ◌∙◌, length, reverse, sym, ap, subst, arith}
use Rattle.code_shrink.specs.Slides.{led}
use Rattle.code_shrink.proofs.SlideLemmas.{WaysFrom, ways_none, typed_at, led_within, ways_more, ways_all}
use Rattle.code_shrink.proofs.ways.ways_of.Goals as goal

pub loop-place-init : goal.loop-place-init
loop-place-init c = rw c.new-ways.ensures.items (ways_none c.args.instrs.now _ (omega arith))

pub decided_way-decided-requires : goal.decided_way-decided-requires
decided_way-decided-requires c =
    let xs = c.args.instrs.now in
    let place = c.loop-place.place - 1 in
    let test = c.loop-place-test.true in
    let within : place < length xs = omega (arith, c.loop-place.invariant.size) in
    typed_at xs place c.index-instrs-place.result within c.index-instrs-place.is c.requires

pub led-way-requires : goal.led-way-requires
led-way-requires c =
    let xs = c.args.instrs.now in
    let place = c.loop-place.place - 1 in
    let test = c.loop-place-test.true in
    let back : place + 1 ≡ c.loop-place.place = omega arith in
    let so_far = subst (λ k. WaysFrom xs k c.loop-place.ways.items) (sym back) c.loop-place.invariant in
    let within : place < length xs = omega (arith, c.loop-place.invariant.size) in
    rw c.deref.ensures.value
    (led_within xs place c.index-instrs-place.result within c.index-instrs-place.is c.decided_way-decided.result
    c.loop-place.ways.items c.requires so_far c.decided_way-decided.ensures)

pub loop-place-preserved : goal.loop-place-preserved
loop-place-preserved c =
    let xs = c.args.instrs.now in
    let place = c.loop-place.place - 1 in
    let test = c.loop-place-test.true in
    let back : place + 1 ≡ c.loop-place.place = omega arith in
    let so_far = subst (λ k. WaysFrom xs k c.loop-place.ways.items) (sym back) c.loop-place.invariant in
    let within : place < length xs = omega (arith, c.loop-place.invariant.size) in
    let on = c.led-way.ensures ∙ ap (λ ws. led c.decided_way-decided.result (reverse ws)) c.deref.ensures.value in
    rw c.in_ok-push.ensures.items
    (ways_more xs place c.index-instrs-place.result within c.index-instrs-place.is c.decided_way-decided.result
    c.led-way.result c.loop-place.ways.items so_far c.decided_way-decided.ensures on)

pub returns : goal.returns
returns c =
    let none : c.loop-place.place ≡ 0 = (let test = c.loop-place-test.false in omega arith) in
    c.reverse.ensures.items
    ∙ ways_all c.args.instrs.now c.loop-place.place c.loop-place.ways.items c.loop-place.invariant none
