use Rattle.std.proofs.Common.{◌+◌, ◌*◌}
use Rattle.range_check.proofs.processing.+processing.Given as goal

abbrev pub decreases-process : goal.decreases-process
decreases-process l = 4 * l.deep

abbrev pub decreases-go_on_inside : goal.decreases-go_on_inside
decreases-go_on_inside l = 4 * l.deep + 3

abbrev pub decreases-process_children : goal.decreases-process_children
decreases-process_children l = 4 * l.deep + 2

abbrev pub decreases-process_first : goal.decreases-process_first
decreases-process_first l = 4 * l.deep + 1

abbrev pub decreases-process_each : goal.decreases-process_each
decreases-process_each l = 4 * l.deep + 1
