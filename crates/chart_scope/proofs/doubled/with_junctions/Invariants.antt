use Rattle.std.proofs.Common.{◌≡◌, map, drop}
use Rattle.chart_places.specs.Scopes.{junction_name}
use Rattle.chart_places.specs.Survey.{owned_of}
use Rattle.resolved_tree.specs.Faults.{first_with}
use Rattle.chart_scope.specs.Names.{doubled_junctions}
use Rattle.chart_scope.proofs.doubled.with_junctions.Given as goal

-- the faults of those to come are left
abbrev pub invariant-loop-number : goal.invariant-loop-number
invariant-loop-number l =
    first_with l.found (doubled_junctions l.scopes l.number
    (map junction_name (map owned_of (drop l.number l.junctions))))
    ≡ first_with l.fn.found (doubled_junctions l.scopes 0 (map junction_name (map owned_of l.junctions)))
