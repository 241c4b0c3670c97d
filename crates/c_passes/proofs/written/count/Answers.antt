use Rattle.code_language.specs.Code.{code_of}
use Rattle.c_shape.specs.FileShapes.{shape_seen}
use Rattle.c_passes.proofs.FunctionLemmas.{functions_count}
use Rattle.c_passes.proofs.written.count.Goals as goal

pub returns : goal.returns
returns c = functions_count (shape_seen c.args.shape.now) (code_of c.args.code.now) c.requires.shape
