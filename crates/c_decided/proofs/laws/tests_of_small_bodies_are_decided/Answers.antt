-- Each case by computation.
use Rattle.std.proofs.Common.{refl}
use Rattle.c_facts.specs.Asking.{tested}
use Rattle.c_decided.specs.Decided.{before}
use Rattle.c_decided.specs.Numbered.{asks}
use Rattle.c_decided.specs.Walk.{walked}
use Rattle.c_decided.proofs.laws.tests_of_small_bodies_are_decided.Goals as goal

pub returns-clause-up : goal.returns-clause-up
unfolding walked tested asks before
returns-clause-up c = refl

pub returns-clause-returned : goal.returns-clause-returned
unfolding walked tested asks before
returns-clause-returned c = refl

pub returns-clause-passed : goal.returns-clause-passed
unfolding walked tested asks before
returns-clause-passed c = refl

pub returns-clause-other : goal.returns-clause-other
unfolding walked tested asks before
returns-clause-other c = refl

pub returns-clause-forgotten : goal.returns-clause-forgotten
unfolding walked tested asks before
returns-clause-forgotten c = refl
