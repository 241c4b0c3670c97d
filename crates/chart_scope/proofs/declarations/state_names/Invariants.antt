use Rattle.std.proofs.Common.{◌≡◌, map, take}
use Rattle.chart_places.specs.Placed.{Placed}
use Rattle.chart_places.specs.Survey.{placed_of}
use Rattle.chart_scope.proofs.declarations.state_names.Given as goal

-- the names of the states so far
abbrev pub invariant-loop-placed : goal.invariant-loop-placed
invariant-loop-placed l =
    l.names.items ≡ map (λ (x : Placed). x.parts.name.text) (map placed_of (take l.placed-index l.states))
