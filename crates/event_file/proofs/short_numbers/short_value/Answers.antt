use Rattle.std.proofs.Common.{ℕ, ◌≡◌, ◌<◌, ◌≤◌, ◌+◌, ◌-◌, ◌*◌, ◌^◌, length, drop, get_or, sym, ap, ◌∙◌, refl, arith}
use Rattle.std.proofs.lemmas.Bool.Decides.{nat_tests}
use Rattle.fixed_point.specs.Reading.{value_after}
use Rattle.fixed_point.proofs.Powers.{ten_power-le}
use Rattle.fixed_point.proofs.Values.{digit_within, value_after-step, value_after-last, room_more, room_below}
use Rattle.event_file.proofs.ShortLemmas.{few_value, no_value, passed_more}
use Rattle.event_file.proofs.short_numbers.short_value.Goals as goal

pub overflow_mul-value : goal.overflow_mul-value
overflow_mul-value c =
    let below = room_below _ _ _ c.loop-digit.invariant.room in
    omega arith

pub overflow_add-value : goal.overflow_add-value
overflow_add-value c =
    let below = room_below _ _ _ c.loop-digit.invariant.room in
    let digit =
    digit_within (get_or c.args.text.now c.loop-digit.digit-index 0) (sym c.if-not-is_ascii_digit.ensures.value) in
    omega arith

-- a byte that is no digit
pub returns-then-not-is_ascii_digit-clause-value : goal.returns-then-not-is_ascii_digit-clause-value
returns-then-not-is_ascii_digit-clause-value c =
    no_value c.args.text.now c.loop-digit.digit-index c.loop-digit-test.true c.loop-digit.invariant.passed
    (sym c.if-not-is_ascii_digit.ensures.value)

pub loop-digit-preserved : goal.loop-digit-preserved
loop-digit-preserved c =
    let is_digit = sym c.if-not-is_ascii_digit.ensures.value in
    let digit = digit_within (get_or c.args.text.now c.loop-digit.digit-index 0) is_digit in
    record {
      passed = passed_more c.args.text.now c.loop-digit.digit-index c.loop-digit.invariant.passed is_digit;
      value =
          ap (λ (x : ℕ). value_after (c.loop-digit.value * 10 + x) (drop (c.loop-digit.digit-index + 1) c.args.text.now)) c.from.ensures
          ∙ value_after-step c.loop-digit.value c.args.text.now c.loop-digit.digit-index c.loop-digit-test.true
          ∙ c.loop-digit.invariant.value;
      room = room_more c.loop-digit.value c.from.result (length c.args.text.now - c.loop-digit.digit-index)
          (length c.args.text.now - (c.loop-digit.digit-index + 1)) _ (omega arith)
          (omega arith) c.loop-digit.invariant.room;
    }

-- all bytes are digits
pub returns-clause-value : goal.returns-clause-value
returns-clause-value c =
    let text = c.args.text.now in
    let some : 0 < length text = grind (arith, nat_tests) in
    let few : length text ≤ 9 = grind (arith, nat_tests) in
    few_value text c.loop-digit.value some few (λ k below. c.loop-digit.invariant.passed k (omega arith))
    (sym (value_after-last c.loop-digit.value text c.loop-digit.digit-index c.loop-digit-test.false)
    ∙ c.loop-digit.invariant.value)

-- no byte has been read
pub loop-digit-init : goal.loop-digit-init
loop-digit-init c =
    let few : length c.args.text.now ≤ 9 = grind (arith, nat_tests) in
    let all : length c.args.text.now - 0 ≡ length c.args.text.now = omega arith in
    record {
      passed = λ k below. absurd (omega arith);
      value = refl;
      room = omega (arith, ap (λ (k : ℕ). 10 ^ k) all, ten_power-le (length c.args.text.now) 9 few);
    }

-- the number has room for no digit more
pub returns-clause-short : goal.returns-clause-short
returns-clause-short c = room_below _ _ _ c.loop-digit.invariant.room
