use Rattle.std.proofs.Common.{◌≡◌, drop}
use Rattle.statechart_meaning.specs.Times as spec
use Rattle.statechart_values.proofs.events.is_event.Given as goal

-- what is left of the events gives what all give
abbrev pub invariant-loop-event : goal.invariant-loop-event
invariant-loop-event l =
    spec.is_event (drop l.event-index l.events) l.name ≡ spec.is_event l.events l.name
