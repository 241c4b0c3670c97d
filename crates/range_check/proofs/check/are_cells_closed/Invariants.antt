use Rattle.range_check.specs.Checks.{AreCellsClosed}
use Rattle.range_check.proofs.check.are_cells_closed.Given as goal

abbrev pub invariant-loop-i : goal.invariant-loop-i
invariant-loop-i l = AreCellsClosed l.setting l.i
