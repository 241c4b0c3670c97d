use Rattle.std.proofs.Common.{◌≤◌}
use Rattle.range_check.proofs.check.is_accepted.Given as goal

abbrev pub invariant-loop-i : goal.invariant-loop-i
invariant-loop-i l = l.i ≤ l.i-end
