use Rattle.std.proofs.Common.{vec_len}
use Rattle.range_check.proofs.processing.+take_outer.Given as goal

abbrev pub decreases-take_outer : goal.decreases-take_outer
decreases-take_outer l = vec_len l.fires
