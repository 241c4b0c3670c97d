use Rattle.code_copies.proofs.MadeWhole.{made_same_runs}
use Rattle.code_copies.proofs.laws.copies_by_a_right_plan_have_the_same_runs.Goals as goal

pub returns : goal.returns
returns c P k well right = made_same_runs P k well right
