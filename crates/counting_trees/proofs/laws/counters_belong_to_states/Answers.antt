use Rattle.counting_trees.proofs.Means.{counter_in}
use Rattle.counting_trees.proofs.laws.counters_belong_to_states.Goals as goal

pub returns : goal.returns
returns _ ks t c d s own k h stands within = counter_in ks t c d s own k h stands within
