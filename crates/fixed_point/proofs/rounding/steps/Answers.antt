use Rattle.std.proofs.Common.{◌≡◌, ℕ, ◌*◌, ◌/◌, ◌%◌, ◌^◌, sym, ap, ◌∙◌, arith}
use Rattle.fixed_point.proofs.Steps.{rest-more, steps-more, steps-grow, steps_within-none}
use Rattle.fixed_point.proofs.rounding.steps.Goals as goal

pub loop-bits-init : goal.loop-bits-init
loop-bits-init c =
    let same : c.args.units ≡ c.args.units * 1 = omega arith in
    record {
      steps =
          ap (λ (x : ℕ). c.args.units / x) c.power_of_ten-one.ensures.value
          ∙ ap (λ (x : ℕ). x / 10 ^ c.args.places) same;
      left =
          ap (λ (x : ℕ). c.args.units % x) c.power_of_ten-one.ensures.value
          ∙ ap (λ (x : ℕ). x % 10 ^ c.args.places) same;
    }

pub returns-then-whole-ge-READ_LIMIT : goal.returns-then-whole-ge-READ_LIMIT
returns-then-whole-ge-READ_LIMIT c =
    let grown = steps-grow c.args.units c.args.places c.loop-bits._bits c.args.frac (omega arith) in
    sym (steps_within-none c.args.units c.args.places c.args.frac (omega (arith, c.loop-bits.invariant.steps, c.if-whole-ge-READ_LIMIT.true)))

pub loop-bits-preserved : goal.loop-bits-preserved
loop-bits-preserved c = record {
  steps =
      steps-more c.args.units c.args.places c.loop-bits._bits c.loop-bits.whole c.loop-bits.rest c.power_of_ten-one.result
      c.power_of_ten-one.ensures.value (omega arith) c.loop-bits.invariant.steps c.loop-bits.invariant.left;
  left = rest-more c.args.units c.args.places c.loop-bits._bits c.loop-bits.rest c.power_of_ten-one.result
      c.power_of_ten-one.ensures.value (omega arith) c.loop-bits.invariant.left;
}
