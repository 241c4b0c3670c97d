use Rattle.counting_rules.proofs.Numbers.{reset_is, one_more_is, test_is}
use Rattle.counting_rules.proofs.laws.counters_are_numbers.Goals as goal

pub returns-clause-reset : goal.returns-clause-reset
returns-clause-reset x v greatest n w h = reset_is v greatest n w h

pub returns-clause-counted : goal.returns-clause-counted
returns-clause-counted x v greatest n w h = one_more_is v greatest n w h

pub returns-clause-tested : goal.returns-clause-tested
returns-clause-tested x v greatest n t w h = test_is v greatest n w h t
