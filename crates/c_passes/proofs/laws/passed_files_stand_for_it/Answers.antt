use Rattle.c_passes.proofs.StandLemmas.{stands, refuse_all, outside_kept}
use Rattle.c_passes.proofs.laws.passed_files_stand_for_it.Goals as goal

pub returns-clause-stand : goal.returns-clause-stand
returns-clause-stand c = stands

pub returns-clause-refuse : goal.returns-clause-refuse
returns-clause-refuse c = refuse_all

pub returns-clause-outside : goal.returns-clause-outside
returns-clause-outside c = outside_kept
