use Rattle.std.proofs.Common.{length}
use Rattle.range_blocks.proofs.blocks.+play.Given as goal

abbrev pub decreases-play : goal.decreases-play
decreases-play l = length l.actions.now
