use Rattle.std.proofs.Common.{◌≡◌, drop}
use Rattle.statechart_meaning.specs.Times as spec
use Rattle.statechart_values.proofs.events.clock_of.Given as goal

-- what is left of the events gives what all give
abbrev pub invariant-loop-event : goal.invariant-loop-event
invariant-loop-event l =
    spec.clock_of (drop l.event-index l.events) ≡ spec.clock_of l.events
