use Rattle.std.proofs.Common.{FitsSigned, rules}
use Rattle.std.specs.Int.{w128}
use Rattle.fixed_point.proofs.Small.{product_fits, product_is}
use Rattle.fixed_point.proofs.fraction.scaled.Goals as goal

-- the product with the power is small
pub overflow_mul-result : goal.overflow_mul-result
overflow_mul-result c =
    let fits : FitsSigned w128 c.args.a.mantissa = search rules in
    product_fits _ _ _ c.power_of_two.ensures fits (record { sfits = c.power_of_two.type_inv }) c.requires.size

-- and exact
pub returns : goal.returns
returns c =
    let fits : FitsSigned w128 c.args.a.mantissa = search rules in
    product_is _ _ _ c.power_of_two.ensures fits (record { sfits = c.power_of_two.type_inv }) c.requires.size
