use Rattle.std.proofs.Common.{◌≡◌, map, take}
use Rattle.chart_places.specs.Placed.{placed_comp}
use Rattle.chart_places.specs.Survey.{placed_of}
use Rattle.chart_places.proofs.tree.comps.Given as goal

-- the compositions so far
abbrev pub invariant-loop-place : goal.invariant-loop-place
invariant-loop-place l = l.comps.items ≡ map placed_comp (map placed_of (take l.place-index l.states))
