use Rattle.code_language.specs.Code.{code_of, instrs_of}
use Rattle.c_shape.specs.FileShapes.{tests_seen}
use Rattle.c_tests.proofs.CheckLemmas.{NoneBefore}
use Rattle.c_tests.proofs.checking.none_can_fail.Given as goal

-- so far none can fail
abbrev pub invariant-loop-instr : goal.invariant-loop-instr
invariant-loop-instr l = NoneBefore (tests_seen l.tests) (code_of l.raw) l.instr-index (instrs_of l.instrs)
