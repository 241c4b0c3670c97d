use Rattle.std.proofs.Common.{length}
use Rattle.statechart_names.proofs.meaning.+argument_named.Given as goal

-- the parameters that are left are fewer
abbrev pub decreases-argument_named : goal.decreases-argument_named
decreases-argument_named l = length l.params.now
