use Rattle.std.proofs.Common.{refl}
use Rattle.c_subset.specs.Meaning.{meaning}
use Rattle.c_subset.proofs.Unset.{field-unset, element-unset}
use Rattle.c_subset.proofs.laws.nothing_is_read_before_it_is_stored.Goals as goal

pub returns-clause-local : goal.returns-clause-local
unfolding meaning
returns-clause-local c = λ int s t k. refl

pub returns-clause-field : goal.returns-clause-field
returns-clause-field c = field-unset

pub returns-clause-element : goal.returns-clause-element
returns-clause-element c = element-unset
