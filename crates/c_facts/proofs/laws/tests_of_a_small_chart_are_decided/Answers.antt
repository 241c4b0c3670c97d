-- Each case by computation.
use Rattle.std.proofs.Common.{refl}
use Rattle.c_facts.specs.Asking.{tested}
use Rattle.c_facts.proofs.laws.tests_of_a_small_chart_are_decided.Goals as goal

pub returns-clause-up : goal.returns-clause-up
unfolding tested
returns-clause-up c = refl

pub returns-clause-down : goal.returns-clause-down
unfolding tested
returns-clause-down c = refl

pub returns-clause-none : goal.returns-clause-none
unfolding tested
returns-clause-none c = refl

pub returns-clause-unequal : goal.returns-clause-unequal
unfolding tested
returns-clause-unequal c = refl

pub returns-clause-bit : goal.returns-clause-bit
unfolding tested
returns-clause-bit c = refl

pub returns-clause-bit_that_is_set : goal.returns-clause-bit_that_is_set
unfolding tested
returns-clause-bit_that_is_set c = refl

pub returns-clause-bit_that_is_cleared : goal.returns-clause-bit_that_is_cleared
unfolding tested
returns-clause-bit_that_is_cleared c = refl

pub returns-clause-child : goal.returns-clause-child
unfolding tested
returns-clause-child c = refl

pub returns-clause-call : goal.returns-clause-call
unfolding tested
returns-clause-call c = refl

pub returns-clause-only_the_bit : goal.returns-clause-only_the_bit
unfolding tested
returns-clause-only_the_bit c = refl
