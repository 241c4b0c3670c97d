use Rattle.std.proofs.Common.{vec_len}
use Rattle.range_check.proofs.processing.+take_inner.Given as goal

abbrev pub decreases-take_inner : goal.decreases-take_inner
decreases-take_inner l = vec_len l.fires
