use Rattle.std.proofs.Common.{drop}
use Rattle.checked_chart.specs.Views.{list_seen}
use Rattle.bound_prove.specs.Lookups.{chart_in}
use Rattle.bound_prove.proofs.HomeLemmas.{FollowedSoFar}
use Rattle.bound_prove.proofs.homes.Marks.follow.Given as goal

abbrev pub invariant-loop-t : goal.invariant-loop-t
invariant-loop-t l =
    FollowedSoFar (chart_in l.look) l.look.cell.event l.s l.kind l.fn.self l.self (list_seen l.list)
    (list_seen (drop l.t-index l.list))
