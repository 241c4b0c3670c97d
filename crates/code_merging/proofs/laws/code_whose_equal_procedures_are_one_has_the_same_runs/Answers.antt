use Rattle.code_merging.proofs.MergedWhole.{merged_same_runs}
use Rattle.code_merging.proofs.laws.code_whose_equal_procedures_are_one_has_the_same_runs.Goals as goal

pub returns : goal.returns
returns c m k well equal = merged_same_runs m k well equal
