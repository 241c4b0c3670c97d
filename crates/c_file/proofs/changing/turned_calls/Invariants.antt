use Rattle.std.proofs.Common.{◌≡◌, ◌≤◌, drop, length}
use Rattle.c_file.specs.Changing.{turned_round}
use Rattle.c_file.proofs.changing.turned_calls.Given as goal

-- the calls from a place on are turned round
abbrev pub invariant-loop-left : goal.invariant-loop-left
invariant-loop-left l = (l.left ≤ length l.calls) × (l.turned.items ≡ turned_round (drop l.left l.calls))

-- one call less is left
abbrev pub decreases-loop-left : goal.decreases-loop-left
decreases-loop-left l = l.left
