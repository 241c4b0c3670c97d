use Rattle.c_shape.specs.FileShapes.{tests_seen}
use Rattle.c_tests.proofs.CheckLemmas.{AreRightBefore}
use Rattle.c_tests.proofs.checking.is_right.Given as goal

-- so far each procedure is right
abbrev pub invariant-loop-proc : goal.invariant-loop-proc
invariant-loop-proc l = AreRightBefore (tests_seen l.tests) l.raw l.proc
