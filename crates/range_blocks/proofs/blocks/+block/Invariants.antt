use Rattle.std.proofs.Common.{length}
use Rattle.range_blocks.proofs.blocks.+block.Given as goal

abbrev pub decreases-block : goal.decreases-block
decreases-block l = length l.stmts.now
