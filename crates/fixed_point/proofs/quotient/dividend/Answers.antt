use Rattle.std.proofs.Common.{ℕ, ◌+◌, ◌-◌, ◌^◌, ◌<◌, ◌≤◌, pos, unsigned_abs, FitsSigned, ap, ◌∙◌, arith, rules}
use Rattle.std.specs.Int.{w128}
use Rattle.fixed_point.specs.Numbers.{common_frac}
use Rattle.fixed_point.proofs.Powers.{power_within_of, abs_positive}
use Rattle.fixed_point.proofs.Small.{product_fits, product_is}
use Rattle.fixed_point.proofs.quotient.dividend.Goals as goal

-- since the dividend isn't 0, its bound is one of the power
pub power_of_two-requires : goal.power_of_two-requires
power_of_two-requires c =
    let a = c.args.a in
    let b = c.args.b in
    let some : 0 < unsigned_abs a.mantissa = abs_positive a.mantissa c.if-a-eq0.false in
    let bound : (common_frac a b - a.frac) + b.frac ≤ 100 =
    power_within_of a.mantissa ((common_frac a b - a.frac) + b.frac) 100 some c.requires.size in
    omega arith

-- the product with the power is small
pub overflow_mul-result : goal.overflow_mul-result
overflow_mul-result c =
    let a = c.args.a in
    let b = c.args.b in
    let fits : FitsSigned w128 a.mantissa = search rules in
    let factor = c.power_of_two.ensures ∙ ap (λ (x : ℕ). pos (2 ^ ((x - a.frac) + b.frac))) c.max.ensures in
    product_fits _ _ _ factor fits (record { sfits = c.power_of_two.type_inv }) c.requires.size

-- and exact
pub returns : goal.returns
returns c =
    let a = c.args.a in
    let b = c.args.b in
    let fits : FitsSigned w128 a.mantissa = search rules in
    let factor = c.power_of_two.ensures ∙ ap (λ (x : ℕ). pos (2 ^ ((x - a.frac) + b.frac))) c.max.ensures in
    product_is _ _ _ factor fits (record { sfits = c.power_of_two.type_inv }) c.requires.size
