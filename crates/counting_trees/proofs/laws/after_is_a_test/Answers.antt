use Rattle.counting_rules.proofs.Numbers.{test_is}
use Rattle.counting_trees.specs.Counters.{counter_end}
use Rattle.counting_trees.proofs.Tests.{after_is, less_test}
use Rattle.counting_trees.proofs.laws.after_is_a_test.Goals as goal

pub returns-clause-test : goal.returns-clause-test
returns-clause-test _ t k n s at place small = after_is t k n s at place (less_test n _ small)

pub returns-clause-value : goal.returns-clause-value
returns-clause-value _ v s e n w log h = test_is v counter_end _ w h.1 n
