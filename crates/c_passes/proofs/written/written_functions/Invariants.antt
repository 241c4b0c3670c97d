use Rattle.code_language.specs.Code.{code_of}
use Rattle.c_shape.specs.FileShapes.{shape_seen}
use Rattle.c_passes.specs.Passed.{written_file}
use Rattle.c_passes.proofs.FunctionLemmas.{AreSoFar}
use Rattle.c_passes.proofs.written.written_functions.Given as goal

-- the functions before the number are made
abbrev pub invariant-loop-number : goal.invariant-loop-number
invariant-loop-number l = AreSoFar l.made.items (written_file (shape_seen l.shape) (code_of l.code)).functions l.number
