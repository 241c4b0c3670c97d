use Rattle.code_language.specs.Code.{instrs_of}
use Rattle.code_notes.specs.Views.{plan_of}
use Rattle.code_notes.proofs.CheckLemmas.{AreRightBefore}
use Rattle.code_notes.proofs.checking.is_procedure_right.Given as goal

-- so far each instruction is right
abbrev pub invariant-loop-place : goal.invariant-loop-place
invariant-loop-place l = AreRightBefore (plan_of l.plan) l.proc l.place (instrs_of l.instrs)
