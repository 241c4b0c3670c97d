use Rattle.std.proofs.Common.{◌≡◌, map, take}
use Rattle.chart_places.specs.Survey.{owned_of}
use Rattle.chart_places.specs.Tables.{declared_of, junction_name}
use Rattle.chart_places.proofs.entries.of_junctions.Given as goal

-- the names so far
abbrev pub invariant-loop-owned : goal.invariant-loop-owned
invariant-loop-owned l = map declared_of l.names.items ≡ map junction_name (map owned_of (take l.owned-index l.junctions))
