use Rattle.std.proofs.Common.{length}
use Rattle.range_worlds.proofs.configs.+any_on.Given as goal

abbrev pub decreases-any_on : goal.decreases-any_on
decreases-any_on l = length l.states.now
