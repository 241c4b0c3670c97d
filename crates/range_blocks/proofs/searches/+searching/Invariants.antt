use Rattle.std.proofs.Common.{◌+◌, ◌*◌}
use Rattle.range_blocks.proofs.searches.+searching.Given as goal

abbrev pub decreases-search : goal.decreases-search
decreases-search l = 3 * l.deep

abbrev pub decreases-reached : goal.decreases-reached
decreases-reached l = 3 * l.deep + 2

abbrev pub decreases-visit : goal.decreases-visit
decreases-visit l = 3 * l.deep + 1
