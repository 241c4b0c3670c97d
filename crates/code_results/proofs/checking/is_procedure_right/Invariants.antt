use Rattle.code_language.specs.Code.{code_of, instrs_of}
use Rattle.code_results.specs.Views.{plan_of}
use Rattle.code_results.proofs.CheckLemmas.{AreRightBefore}
use Rattle.code_results.proofs.checking.is_procedure_right.Given as goal

-- so far each instruction is right
abbrev pub invariant-loop-place : goal.invariant-loop-place
invariant-loop-place l = AreRightBefore (plan_of l.plan) (code_of l.raw).procedures l.proc l.place (instrs_of l.instrs)
