use Rattle.std.proofs.Common.{◌≡◌, drop}
use Rattle.flow_base.specs.Lists.{items_of}
use Rattle.code_language.specs.Acceptance.{procs_of}
use Rattle.code_language.specs.Code.{code_of}
use Rattle.code_language.specs.WellFormed.{known_of, procs_fault}
use Rattle.code_language.proofs.faults.procs_fault.Given as goal

-- the procedures that are left have the first fault of all of them
abbrev pub invariant-loop-p : goal.invariant-loop-p
invariant-loop-p l =
    procs_fault (known_of (code_of l.raw)) l.p (drop l.p (procs_of (items_of l.raw.procs)))
    ≡ procs_fault (known_of (code_of l.raw)) 0 (procs_of (items_of l.raw.procs))
