use Rattle.std.proofs.Common.{◌≡◌, take}
use Rattle.flow_base.specs.Lists.{items_of}
use Rattle.code_language.specs.Acceptance.{procs_of}
use Rattle.code_copies.specs.Asking.{with_asking}
use Rattle.code_copies.proofs.asking.asking_procs.Given as goal

-- the procedures so far are made
abbrev pub invariant-loop-proc : goal.invariant-loop-proc
invariant-loop-proc l =
    procs_of (items_of l.made) ≡ take l.proc (with_asking l.react l.events (procs_of l.procs))
