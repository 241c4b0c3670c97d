use Rattle.code_copies.proofs.RootedStarts.{rooted_by_start}
use Rattle.code_copies.proofs.laws.code_whose_start_marks_the_root_is_rooted.Goals as goal

pub returns : goal.returns
returns c k well never makes = rooted_by_start k well never makes
