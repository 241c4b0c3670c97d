use Rattle.std.proofs.Common.{◌+◌, ◌*◌}
use Rattle.range_moves.proofs.exits.+leaving.Given as goal

abbrev pub decreases-exit : goal.decreases-exit
decreases-exit l = 4 * l.deep

abbrev pub decreases-exit_children : goal.decreases-exit_children
decreases-exit_children l = 4 * l.deep + 3

abbrev pub decreases-exit_active : goal.decreases-exit_active
decreases-exit_active l = 4 * l.deep + 2

abbrev pub decreases-exit_first : goal.decreases-exit_first
decreases-exit_first l = 4 * l.deep + 1

abbrev pub decreases-exit_each : goal.decreases-exit_each
decreases-exit_each l = 4 * l.deep + 1
