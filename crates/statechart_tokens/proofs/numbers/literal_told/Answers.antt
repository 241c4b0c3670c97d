use Rattle.std.proofs.Common.{ℕ, Option, Some, None, ◌≤◌, length, refl, ap, ◌∙◌, arith}
use Rattle.fixed_point.specs.Reading.{value_after}
use Rattle.fixed_point.proofs.Powers.{ten_power-le}
use Rattle.fixed_point.proofs.Values.{room_behind}
use Rattle.statechart_tokens.specs.Numbers.{or_fault}
use Rattle.statechart_tokens.proofs.NumberLemmas.{told_few}
use Rattle.statechart_tokens.proofs.numbers.literal_told.Goals as goal

pub value_after-requires-clause-room : goal.value_after-requires-clause-room
value_after-requires-clause-room c =
    let few : length c.args.parts.whole.now ≤ 36 = omega arith in
    omega (arith, ten_power-le (length c.args.parts.whole.now) 36 few)

pub value_after-units-requires-clause-room : goal.value_after-units-requires-clause-room
value_after-units-requires-clause-room c =
    room_behind c.value_after.result (length c.args.parts.whole.now)
    (length c.args.parts.behind.now) c.value_after.ensures.bound (omega arith)

pub returns-in-Some : goal.returns-in-Some
returns-in-Some c =
    let parts = c.args.parts in
    told_few parts.negative parts.whole.now parts.behind.now parts.bits c.frac_of-frac.result c.value_after-units.result
    (length parts.behind.now) c.number_of.result (Some c.in-Some.fault) (omega arith)
    (c.value_after-units.ensures.value ∙ ap (λ (x : ℕ). value_after x parts.behind.now) c.value_after.ensures.value)
    refl c.frac_of-frac.ensures c.number_of.ensures c.in-Some.ensures

pub returns-in-None : goal.returns-in-None
returns-in-None c =
    let parts = c.args.parts in
    ap (λ (q : Option ℕ). or_fault None
    (record { units = c.value_after-units.result; places = length parts.behind.now; q = q })) c.short_bits.ensures
    ∙ told_few parts.negative parts.whole.now parts.behind.now parts.bits c.frac_of-frac.result
    c.value_after-units.result (length parts.behind.now) c.number_of.result None (omega arith)
    (c.value_after-units.ensures.value ∙ ap (λ (x : ℕ). value_after x parts.behind.now) c.value_after.ensures.value)
    refl c.frac_of-frac.ensures c.number_of.ensures c.in-None.ensures
