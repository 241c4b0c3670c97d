use Rattle.std.proofs.Common.{◌≡◌, map, take, drop}
use Rattle.chart_places.specs.Survey.{owned_of}
use Rattle.resolved_tree.specs.Faults.{first_with}
use Rattle.resolved_tree.specs.Views as views
use Rattle.chart_scope.specs.Names.{used_in_junctions}
use Rattle.chart_scope.specs.Resolution.{resolved_junction}
use Rattle.chart_scope.proofs.states.junctions.Given as goal

-- the junctions so far are built, and the faults of those to come are left
abbrev pub invariant-loop-owned : goal.invariant-loop-owned
invariant-loop-owned l = record {
  built : map views.junction_of l.built.items
      ≡ map (resolved_junction l.scopes) (map owned_of (take l.owned-index l.junctions));
  kept : first_with l.found (used_in_junctions l.scopes (map owned_of (drop l.owned-index l.junctions)))
      ≡ first_with l.fn.found (used_in_junctions l.scopes (map owned_of l.junctions));
}
