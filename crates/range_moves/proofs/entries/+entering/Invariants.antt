use Rattle.std.proofs.Common.{◌+◌, ◌*◌}
use Rattle.range_moves.proofs.entries.+entering.Given as goal

abbrev pub decreases-enter : goal.decreases-enter
decreases-enter l = 5 * l.deep

abbrev pub decreases-enter_inside : goal.decreases-enter_inside
decreases-enter_inside l = 5 * l.deep + 4

abbrev pub decreases-enter_each : goal.decreases-enter_each
decreases-enter_each l = 5 * l.deep + 1

abbrev pub decreases-enter_toward : goal.decreases-enter_toward
decreases-enter_toward l = 5 * l.deep + 3

abbrev pub decreases-enter_child : goal.decreases-enter_child
decreases-enter_child l = 5 * l.deep + 1

abbrev pub decreases-defaults : goal.decreases-defaults
decreases-defaults l = 5 * l.deep + 2

abbrev pub decreases-return_first : goal.decreases-return_first
decreases-return_first l = 5 * l.deep + 3

abbrev pub decreases-default_search : goal.decreases-default_search
decreases-default_search l = 5 * l.deep + 2

abbrev pub decreases-enter_fires : goal.decreases-enter_fires
decreases-enter_fires l = 5 * l.deep + 1
