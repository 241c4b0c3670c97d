use Rattle.std.proofs.Common.{ℕ, ◌+◌, ◌-◌, ◌*◌, length, drop, get_or, sym, ap, ◌∙◌, arith}
use Rattle.fixed_point.specs.Reading.{value_after}
use Rattle.fixed_point.proofs.Values.{digit_within, value_after-step, value_after-last, room_more, room_below}
use Rattle.fixed_point.proofs.reading.value_after.Goals as goal

pub overflow_mul-value : goal.overflow_mul-value
overflow_mul-value c =
    let below = room_below _ _ _ c.loop-digit.invariant.room in
    omega (arith, c.requires.room)

pub overflow_add-value : goal.overflow_add-value
overflow_add-value c =
    let below = room_below _ _ _ c.loop-digit.invariant.room in
    let digit =
    digit_within (get_or c.args.digits.now c.loop-digit.digit-index 0)
    (c.requires.digits c.loop-digit.digit-index 0 c.loop-digit-test.true) in
    omega (arith, c.requires.room)

pub loop-digit-preserved : goal.loop-digit-preserved
loop-digit-preserved c =
    let digit =
    digit_within (get_or c.args.digits.now c.loop-digit.digit-index 0)
    (c.requires.digits c.loop-digit.digit-index 0 c.loop-digit-test.true) in
    record {
      value =
          ap (λ (x : ℕ). value_after (c.loop-digit.value * 10 + x) (drop (c.loop-digit.digit-index + 1) c.args.digits.now)) c.from.ensures
          ∙ value_after-step c.loop-digit.value c.args.digits.now c.loop-digit.digit-index c.loop-digit-test.true
          ∙ c.loop-digit.invariant.value;
      room = room_more c.loop-digit.value c.from.result (length c.args.digits.now - c.loop-digit.digit-index)
          (length c.args.digits.now - (c.loop-digit.digit-index + 1)) _ (omega arith)
          (omega arith) c.loop-digit.invariant.room;
    }

pub returns-clause-value : goal.returns-clause-value
returns-clause-value c =
    sym (value_after-last c.loop-digit.value c.args.digits.now c.loop-digit.digit-index c.loop-digit-test.false)
    ∙ c.loop-digit.invariant.value
