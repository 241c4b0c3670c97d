use Rattle.std.proofs.Common.{◌≡◌, map, drop}
use Rattle.chart_places.specs.Placed.{Placed}
use Rattle.chart_places.specs.Survey.{placed_of}
use Rattle.resolved_tree.specs.Faults.{first_with}
use Rattle.chart_scope.specs.Names.{doubled_states}
use Rattle.chart_scope.proofs.doubled.with_states.Given as goal

-- the faults of those to come are left
abbrev pub invariant-loop-number : goal.invariant-loop-number
invariant-loop-number l =
    first_with l.found (doubled_states l.scopes l.number
    (map (λ (x : Placed). x.parts.name) (map placed_of (drop l.number l.states))))
    ≡ first_with l.fn.found (doubled_states l.scopes 0 (map (λ (x : Placed). x.parts.name) (map placed_of l.states)))
