use Rattle.range_blocks.proofs.SendLemmas.{Copying}
use Rattle.range_blocks.proofs.sends.gathered.Given as goal

abbrev pub invariant-loop-end : goal.invariant-loop-end
invariant-loop-end l = Copying l.setting l.fn.xs.items l.ends l.end-index l.both.items
