use Rattle.code_notes.proofs.Whole.{made_same_runs}
use Rattle.code_notes.proofs.laws.code_by_a_right_plan_of_notes_has_the_same_runs.Goals as goal

pub returns : goal.returns
returns c P k right well = made_same_runs P k right well
