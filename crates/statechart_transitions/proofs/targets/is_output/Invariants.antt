use Rattle.std.proofs.Common.{◌≡◌, drop}
use Rattle.statechart_meaning.specs.Statements as spec
use Rattle.statechart_transitions.proofs.targets.is_output.Given as goal

-- what is left of the events gives what all give
abbrev pub invariant-loop-event : goal.invariant-loop-event
invariant-loop-event l = spec.is_output (drop l.event-index l.events) l.name ≡ spec.is_output l.events l.name
