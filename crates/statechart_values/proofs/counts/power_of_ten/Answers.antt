use Rattle.std.proofs.Common.{◌≡◌, ◌≤◌, ◌^◌, rules}
use Rattle.fixed_point.proofs.Powers.{ten_power-le}
use Rattle.statechart_values.proofs.counts.power_of_ten.Goals as goal

-- powers of ten are in their order
pub returns-clause-bound : goal.returns-clause-bound
returns-clause-bound c =
    let power : c.pow.result ≡ 10 ^ c.args.places = search rules in
    let bound : 10 ^ c.args.places ≤ 10 ^ 12 = ten_power-le c.args.places 12 c.requires in
    rw power bound
