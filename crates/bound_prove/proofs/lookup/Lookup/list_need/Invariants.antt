use Rattle.std.proofs.Common.{drop}
use Rattle.checked_chart.specs.Views.{list_seen}
use Rattle.bound_prove.proofs.Pieces.{ListSoFar}
use Rattle.bound_prove.proofs.lookup.Lookup.list_need.Given as goal

abbrev pub invariant-loop-t : goal.invariant-loop-t
invariant-loop-t l =
    ListSoFar l.self l.fn.met.items l.met.items (list_seen l.list) (list_seen (drop l.t-index l.list)) l.need
