use Rattle.std.proofs.Common.{ℕ, Option, ◌≤◌, ◌+◌, length, sym, ap, ◌∙◌, arith}
use Rattle.fixed_point.specs.Reading.{value_after, number_of, frac_of}
use Rattle.fixed_point.proofs.Powers.{ten_power-le}
use Rattle.fixed_point.proofs.Values.{room_behind, number_told-is}
use Rattle.fixed_point.proofs.reading.number_told.Goals as goal

pub value_after-requires-clause-room : goal.value_after-requires-clause-room
value_after-requires-clause-room c =
    let few : length c.args.parts.whole.now ≤ 36 = omega arith in
    omega (arith, ten_power-le (length c.args.parts.whole.now) 36 few)

pub value_after-units-requires-clause-room : goal.value_after-units-requires-clause-room
value_after-units-requires-clause-room c =
    room_behind c.value_after.result (length c.args.parts.whole.now)
    (length c.args.parts.behind.now) c.value_after.ensures.bound (omega arith)

pub returns : goal.returns
returns c =
    let parts = c.args.parts in
    let few : length parts.whole.now + length parts.behind.now ≤ 36 = omega arith in
    let units =
    c.value_after-units.ensures.value ∙ ap (λ (x : ℕ). value_after x parts.behind.now) c.value_after.ensures.value in
    c.number_of.ensures
    ∙ ap (λ (f : Option ℕ). number_of parts.negative c.value_after-units.result (length parts.behind.now) f) c.frac_of.ensures
    ∙ ap (λ (u : ℕ). number_of parts.negative u (length parts.behind.now) (frac_of parts.bits u (length parts.behind.now))) units
    ∙ sym (number_told-is parts.negative parts.whole.now parts.behind.now parts.bits few)
