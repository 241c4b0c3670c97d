use Rattle.c_file.proofs.OrderLemmas.{early_call}
use Rattle.c_file.proofs.laws.each_call_stands_behind_a_declaration.Goals as goal

pub returns : goal.returns
returns c = early_call
