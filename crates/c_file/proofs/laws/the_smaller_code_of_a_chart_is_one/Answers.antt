use Rattle.c_file.proofs.OneCode.{one_code}
use Rattle.c_file.proofs.laws.the_smaller_code_of_a_chart_is_one.Goals as goal

pub returns : goal.returns
returns c = one_code
