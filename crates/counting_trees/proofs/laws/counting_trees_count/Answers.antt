use Rattle.counting_trees.proofs.Counts.{counts, run_counts}
use Rattle.counting_trees.proofs.laws.counting_trees_count.Goals as goal

pub returns-clause-start : goal.returns-clause-start
returns-clause-start _ ks t c d b w f h = (counts ks t c d h b).starts w f

pub returns-clause-reaction : goal.returns-clause-reaction
returns-clause-reaction _ ks t c d b w v e f h = (counts ks t c d h b).reacts w e v f

pub returns-clause-run : goal.returns-clause-run
returns-clause-run _ ks t c d b events moments h = run_counts ks t c d h b events moments
