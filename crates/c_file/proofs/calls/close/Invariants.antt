use Rattle.std.proofs.Common.{◌+◌}
use Rattle.code_shrink.specs.Search.{unset_count}
use Rattle.c_file.proofs.ReachLemmas.{Closing, bit}
use Rattle.c_file.proofs.calls.close.Given as goal

-- the passes so far
abbrev pub invariant-loop-goes_on : goal.invariant-loop-goes_on
invariant-loop-goes_on l = Closing l.calls l.fn.flags l.flags l.goes_on

-- a pass that finds something new sets a flag, and another one is the last
abbrev pub decreases-loop-goes_on : goal.decreases-loop-goes_on
decreases-loop-goes_on l = bit l.goes_on + unset_count l.flags
