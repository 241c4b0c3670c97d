use Rattle.std.proofs.Common.{◌≡◌, map, take}
use Rattle.chart_places.specs.Survey.{placed_of}
use Rattle.chart_places.specs.Tables.{declared_of, state_name}
use Rattle.chart_places.proofs.entries.of_states.Given as goal

-- the names so far
abbrev pub invariant-loop-place : goal.invariant-loop-place
invariant-loop-place l = map declared_of l.names.items ≡ map state_name (map placed_of (take l.place-index l.states))
