use Rattle.std.proofs.Common.{vec_len}
use Rattle.range_search.proofs.search.put_sets.Given as goal

abbrev pub decreases-loop-y : goal.decreases-loop-y
decreases-loop-y l = vec_len l.left
