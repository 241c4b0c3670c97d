use Rattle.std.proofs.Common.{◌≡◌, take}
use Rattle.flow_base.specs.Lists.{items_of}
use Rattle.code_shrink.proofs.tables.copy_events.Given as goal

-- the items so far are copied
abbrev pub invariant-loop-event : goal.invariant-loop-event
invariant-loop-event l = items_of l.copies ≡ take l.event-index l.events
