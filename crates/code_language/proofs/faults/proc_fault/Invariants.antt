use Rattle.std.proofs.Common.{◌≡◌, drop}
use Rattle.code_language.specs.Code.{code_of, instrs_of}
use Rattle.code_language.specs.WellFormed.{known_of, instrs_fault}
use Rattle.code_language.proofs.faults.proc_fault.Given as goal

-- what is left of the procedure has the first fault of all of it
abbrev pub invariant-loop-place : goal.invariant-loop-place
invariant-loop-place l =
    instrs_fault (known_of (code_of l.raw)) l.p l.place (drop l.place (instrs_of l.instrs))
    ≡ instrs_fault (known_of (code_of l.raw)) l.p 0 (instrs_of l.instrs)
