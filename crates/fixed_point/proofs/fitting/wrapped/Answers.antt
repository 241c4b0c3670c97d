use Rattle.std.proofs.Common.{ℕ, ◌^◌, ◌≤◌, pos, ◌-ℤ◌, FitsSigned, ap, ◌∙◌, refl, arith}
use Rattle.std.proofs.lemmas.Nat.{pow_pos}
use Rattle.std.specs.Int.{w128}
use Rattle.fixed_point.specs.Scales.{least}
use Rattle.fixed_point.proofs.Powers.{power-le}
use Rattle.fixed_point.proofs.Small.{difference_fits, sum_fits, sum_is, least_small, rest_small, rest_is, power_bits}
use Rattle.fixed_point.proofs.fitting.wrapped.Goals as goal

-- the mantissa and the least one are small
pub overflow_sub-mantissa : goal.overflow_sub-mantissa
overflow_sub-mantissa c =
    difference_fits _ _ c.args.mantissa (least c.args.to) refl c.least-least.ensures c.requires (least_small c.args.to)

-- the width is at most 64
pub power_of_two-requires : goal.power_of_two-requires
power_of_two-requires c = omega (arith, c.from.ensures, c.args.to.bits_within)

-- a power of two has a bit
pub rem_euclid-requires-clause-nonzero : goal.rem_euclid-requires-clause-nonzero
rem_euclid-requires-clause-nonzero c =
    let k = c.from.result in
    let fits : FitsSigned w128 c.power_of_two.result = record { sfits = c.power_of_two.type_inv } in
    omega (arith, power_bits _ k c.power_of_two.ensures fits, pow_pos k)

-- the divisor isn't -1
pub rem_euclid-requires-clause-no_overflow : goal.rem_euclid-requires-clause-no_overflow
rem_euclid-requires-clause-no_overflow c = λ ones far.
    let k = c.from.result in
    let few : k ≤ 64 = omega (arith, c.from.ensures, c.args.to.bits_within) in
    let fits : FitsSigned w128 c.power_of_two.result = record { sfits = c.power_of_two.type_inv } in
    omega (arith, power_bits _ k c.power_of_two.ensures fits, power-le k 64 few)

-- the rest is small, too
pub overflow_add-result : goal.overflow_add-result
overflow_add-result c =
    let to = c.args.to in
    let z = c.args.mantissa -ℤ least to in
    let power = c.power_of_two.ensures ∙ ap (λ (x : ℕ). pos (2 ^ x)) c.from.ensures in
    let fits : FitsSigned w128 c.power_of_two.result = record { sfits = c.power_of_two.type_inv } in
    let rest = rest_is to _ _ _ _ c.requires c.least-least.ensures power fits c.rem_euclid.ensures.value in
    sum_fits _ _ _ _ c.least-least.ensures rest (least_small to) (rest_small z to)

-- the least mantissa and the rest
pub returns : goal.returns
returns c =
    let to = c.args.to in
    let z = c.args.mantissa -ℤ least to in
    let power = c.power_of_two.ensures ∙ ap (λ (x : ℕ). pos (2 ^ x)) c.from.ensures in
    let fits : FitsSigned w128 c.power_of_two.result = record { sfits = c.power_of_two.type_inv } in
    let rest = rest_is to _ _ _ _ c.requires c.least-least.ensures power fits c.rem_euclid.ensures.value in
    sum_is _ _ _ _ c.least-least.ensures rest (least_small to) (rest_small z to)
