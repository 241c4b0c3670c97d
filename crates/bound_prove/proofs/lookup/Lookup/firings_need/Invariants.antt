use Rattle.std.proofs.Common.{drop}
use Rattle.bound_prove.specs.Firings.{AreRight}
use Rattle.bound_prove.specs.Lookups.{chart_in, cells_in, IsDone}
use Rattle.bound_prove.proofs.Pieces.{FiringsSoFar}
use Rattle.bound_prove.proofs.lookup.Lookup.firings_need.Given as goal

-- the firings before a home are evaluated
abbrev pub invariant-loop-home : goal.invariant-loop-home
invariant-loop-home l = record {
  so_far : FiringsSoFar l.self l.fn.met.items l.met.items l.home-items (drop l.home-index l.home-items)
      l.need;
  right : AreRight (chart_in l.self) (cells_in l.self) (IsDone l.self) l.firings;
}
