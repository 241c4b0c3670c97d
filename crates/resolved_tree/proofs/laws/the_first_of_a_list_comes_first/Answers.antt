use Rattle.resolved_tree.proofs.FirstLemmas.{first_of_first}
use Rattle.resolved_tree.proofs.laws.the_first_of_a_list_comes_first.Goals as goal

pub returns : goal.returns
returns c = first_of_first
