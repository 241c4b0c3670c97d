use Rattle.std.proofs.Common.{length}
use Rattle.c_unread.proofs.live.+add_all_read.Given as goal

abbrev pub decreases-add_all_read : goal.decreases-add_all_read
decreases-add_all_read l = length l.exprs.now
