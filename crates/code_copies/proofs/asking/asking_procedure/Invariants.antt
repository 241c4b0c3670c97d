use Rattle.std.proofs.Common.{◌≡◌, ◌++◌, drop}
use Rattle.flow_base.specs.Lists.{items_of}
use Rattle.code_language.specs.Code.{instrs_of}
use Rattle.code_copies.specs.Asking.{asking}
use Rattle.code_copies.proofs.asking.asking_procedure.Given as goal

-- what is made, with what is left, is all
abbrev pub invariant-loop-event : goal.invariant-loop-event
invariant-loop-event l =
    instrs_of (items_of l.made) ++ asking (drop l.event-index l.events) (instrs_of l.instrs)
    ≡ asking l.events (instrs_of l.instrs)
