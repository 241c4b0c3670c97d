use Rattle.std.proofs.Common.{◌+◌, length}
use Rattle.bound_prove.specs.Homes.{unmarked}
use Rattle.bound_prove.specs.Lookups.{chart_in}
use Rattle.bound_prove.proofs.HomeLemmas.{IsUnderWay}
use Rattle.bound_prove.proofs.homes.Marks.find_homes.Given as goal

abbrev pub invariant-loop-j : goal.invariant-loop-j
invariant-loop-j l = IsUnderWay (chart_in l.look) l.look.cell.event l.s l.kind l.self

abbrev pub decreases-loop-j : goal.decreases-loop-j
decreases-loop-j l = length l.self.todo.items + unmarked l.self.stamp l.self.walks.items
