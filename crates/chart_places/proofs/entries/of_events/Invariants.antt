use Rattle.std.proofs.Common.{◌≡◌, map, take}
use Rattle.chart_places.specs.Tables.{declared_of, event_name}
use Rattle.chart_places.proofs.entries.of_events.Given as goal

-- the names so far
abbrev pub invariant-loop-event : goal.invariant-loop-event
invariant-loop-event l = map declared_of l.names.items ≡ map event_name (take l.event-index l.events)
