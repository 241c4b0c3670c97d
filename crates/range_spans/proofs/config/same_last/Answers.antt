use Rattle.std.proofs.Common.{arith}
use Rattle.range_spans.proofs.SameLemmas.{same_entries}
use Rattle.range_spans.proofs.config.same_last.Goals as goal

pub returns : goal.returns
returns c = same_entries _ _ c.if-a-b.false (λ k lt. c.loop-i.invariant k (omega arith))
