use Rattle.std.proofs.Common.{arith}
use Rattle.std.proofs.lemmas.Nat.{one_shl}
use Rattle.fixed_point.proofs.power.unsigned_power.Goals as goal

-- the shift loses no bit
pub returns : goal.returns
returns c = one_shl c.args.exponent 128 (omega arith)
