use Rattle.std.proofs.Common.{arith}
use Rattle.range_worlds.proofs.InsideLemmas.{within_all}
use Rattle.range_worlds.proofs.inside.is_within.Goals as goal

pub returns : goal.returns
returns c = within_all _ _ c.if-a-b.false (λ k lt. c.loop-i.invariant k (omega arith))
