use Rattle.std.proofs.Common.{◌≡◌, map, take}
use Rattle.chart_places.specs.Survey.{placed_of, parent_numbers}
use Rattle.chart_places.proofs.tree.parents.Given as goal

-- the parents so far
abbrev pub invariant-loop-place : goal.invariant-loop-place
invariant-loop-place l = l.parents.items ≡ parent_numbers (map placed_of (take l.place-index l.states))
