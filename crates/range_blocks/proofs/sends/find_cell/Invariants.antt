use Rattle.std.proofs.Common.{◌≤◌}
use Rattle.range_blocks.proofs.sends.find_cell.Given as goal

abbrev pub invariant-loop-i : goal.invariant-loop-i
invariant-loop-i l = l.i ≤ l.i-end
