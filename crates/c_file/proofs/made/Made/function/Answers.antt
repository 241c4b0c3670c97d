use Rattle.std.proofs.Common.{arith}
use Rattle.c_file.proofs.FunctionLemmas.{function_made, functions_made}
use Rattle.c_file.proofs.made.Made.function.Goals as goal

pub index-requires : goal.index-requires
index-requires c = omega (arith, c.requires.within, functions_made c.args.self.now c.requires.is)

pub returns : goal.returns
returns c =
    function_made c.args.self.now c.requires.is c.args.number c.index.result.now _ c.requires.within c.index.ensures
