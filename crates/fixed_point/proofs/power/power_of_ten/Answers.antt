use Rattle.std.proofs.Common.{arith}
use Rattle.fixed_point.proofs.Powers.{ten_some, ten_power-le}
use Rattle.fixed_point.proofs.power.power_of_ten.Goals as goal

pub pow-requires : goal.pow-requires
pow-requires c = omega (arith, ten_power-le c.args.exponent 36 c.requires)

pub returns-clause-some : goal.returns-clause-some
returns-clause-some c = omega (arith, ten_some c.args.exponent)

pub returns-clause-most : goal.returns-clause-most
returns-clause-most c = omega (arith, ten_power-le c.args.exponent 36 c.requires)
