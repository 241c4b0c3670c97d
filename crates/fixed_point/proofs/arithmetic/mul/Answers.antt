use Rattle.std.proofs.Common.{FitsSigned, refl, rules}
use Rattle.std.specs.Int.{w128}
use Rattle.fixed_point.proofs.Small.{product_fits, product_is, same_num}
use Rattle.fixed_point.proofs.arithmetic.mul.Goals as goal

-- the product is small
pub overflow_mul-result : goal.overflow_mul-result
overflow_mul-result c =
    let a_fits : FitsSigned w128 c.args.a.mantissa = search rules in
    let b_fits : FitsSigned w128 c.args.b.mantissa = search rules in
    product_fits _ _ _ refl a_fits b_fits c.requires.size

-- and exact
pub returns : goal.returns
returns c =
    let a_fits : FitsSigned w128 c.args.a.mantissa = search rules in
    let b_fits : FitsSigned w128 c.args.b.mantissa = search rules in
    same_num _ _ _ _ (product_is _ _ _ refl a_fits b_fits c.requires.size) refl
