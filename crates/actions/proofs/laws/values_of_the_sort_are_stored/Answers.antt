use Rattle.actions.proofs.StoredLemmas.{stored, stored_in_range, mantissa_in-value_at}
use Rattle.actions.proofs.laws.values_of_the_sort_are_stored.Goals as goal

pub returns : goal.returns
returns c = record { stored = stored; sorts = stored_in_range; shown = mantissa_in-value_at }
