use Rattle.c_file.proofs.FunctionLemmas.{functions_count}
use Rattle.c_file.proofs.made.Made.count.Goals as goal

pub returns : goal.returns
returns c = functions_count c.args.self.now c.requires.is
