use Rattle.counting_trees.proofs.Written.{written_out}
use Rattle.counting_trees.proofs.laws.counting_trees_are_written_out.Goals as goal

pub returns : goal.returns
returns _ ks t d ready h = written_out ks t h.resolved h.resolves ready d h.checked
