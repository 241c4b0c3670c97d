use Rattle.std.proofs.Common.{◌≡◌}
use Rattle.c_tests.proofs.spreading.mark_failing.Given as goal

-- what is known of steps and depth stays
abbrev pub invariant-loop-proc : goal.invariant-loop-proc
invariant-loop-proc l = record {
  steps : l.tests.steps ≡ l.initial.tests.steps;
  depth : l.tests.depth ≡ l.initial.tests.depth;
}
