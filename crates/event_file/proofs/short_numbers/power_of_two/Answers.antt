use Rattle.std.proofs.Common.{arith}
use Rattle.std.proofs.lemmas.Nat.{one_shl}
use Rattle.event_file.proofs.short_numbers.power_of_two.Goals as goal

-- the shift loses no bit
pub returns : goal.returns
returns c = one_shl c.args.exponent 64 (omega arith)
