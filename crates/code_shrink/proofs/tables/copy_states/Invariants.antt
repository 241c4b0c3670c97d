use Rattle.std.proofs.Common.{◌≡◌, take}
use Rattle.flow_base.specs.Lists.{items_of}
use Rattle.code_shrink.proofs.tables.copy_states.Given as goal

-- the items so far are copied
abbrev pub invariant-loop-state : goal.invariant-loop-state
invariant-loop-state l = items_of l.copies ≡ take l.state-index l.states
