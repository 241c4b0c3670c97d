-- Each case by computation.
use Rattle.std.proofs.Common.{[], refl, ap}
use Rattle.c_subset.specs.Meaning.{meaning}
use Rattle.c_subset.specs.Running.{outcome, with_arguments, call, run}
use Rattle.c_subset.proofs.laws.what_is_undefined_is_wrong.Goals as goal

pub returns-clause-sum : goal.returns-clause-sum
unfolding meaning
returns-clause-sum c = λ s l. refl

pub returns-clause-promoted_sum : goal.returns-clause-promoted_sum
unfolding meaning
returns-clause-promoted_sum c = λ s l. refl

pub returns-clause-promoted_product : goal.returns-clause-promoted_product
unfolding meaning
returns-clause-promoted_product c = λ s l. refl

pub returns-clause-unsigned_difference : goal.returns-clause-unsigned_difference
unfolding meaning
returns-clause-unsigned_difference c = λ s l. refl

pub returns-clause-negative : goal.returns-clause-negative
unfolding meaning
returns-clause-negative c = λ s l. refl

pub returns-clause-divisor : goal.returns-clause-divisor
unfolding meaning
returns-clause-divisor c = λ s l. refl

pub returns-clause-quotient : goal.returns-clause-quotient
unfolding meaning
returns-clause-quotient c = λ s l. refl

pub returns-clause-remainder : goal.returns-clause-remainder
unfolding meaning
returns-clause-remainder c = λ s l. refl

pub returns-clause-conversion : goal.returns-clause-conversion
unfolding meaning
returns-clause-conversion c = λ s l. refl

pub returns-clause-reduction : goal.returns-clause-reduction
unfolding meaning
returns-clause-reduction c = λ s l. refl

pub returns-clause-bits_of_int : goal.returns-clause-bits_of_int
unfolding meaning
returns-clause-bits_of_int c = λ s l. refl

pub returns-clause-bits_of_unsigned : goal.returns-clause-bits_of_unsigned
unfolding meaning
returns-clause-bits_of_unsigned c = λ s l. refl

pub returns-clause-not_evaluated : goal.returns-clause-not_evaluated
unfolding meaning
returns-clause-not_evaluated c = λ s. refl

pub returns-clause-index : goal.returns-clause-index
unfolding meaning
returns-clause-index c = λ l o fields. refl

pub returns-clause-index_of_a_store : goal.returns-clause-index_of_a_store
unfolding outcome meaning
returns-clause-index_of_a_store c = λ calls k l o fields rest. refl

pub returns-clause-no_value_returned : goal.returns-clause-no_value_returned
unfolding call outcome with_arguments
returns-clause-no_value_returned c = λ file int k f s t is. ap (λ g. run int (call file int k) k g [] s) is
