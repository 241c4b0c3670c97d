use Rattle.std.proofs.Common.{arith}
use Rattle.std.proofs.lemmas.Nat.{one_shl}
use Rattle.range_spans.proofs.span.unsigned_power.Goals as goal

pub returns : goal.returns
returns c = one_shl c.args.exponent 128 (omega arith)
