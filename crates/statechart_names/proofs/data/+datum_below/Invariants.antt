use Rattle.std.proofs.Common.{length}
use Rattle.statechart_names.proofs.data.+datum_below.Given as goal

-- the names that are left are fewer
abbrev pub decreases-datum_below : goal.decreases-datum_below
decreases-datum_below l = length l.names.now
