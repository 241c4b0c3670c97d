use Rattle.std.proofs.Common.{arith}
use Rattle.code_language.specs.Code.{code_of}
use Rattle.c_shape.specs.FileShapes.{shape_seen}
use Rattle.c_passes.specs.Passed.{written_file}
use Rattle.c_passes.proofs.FunctionLemmas.{functions_count, one_function, none_so_far, one_more, all_so_far}
use Rattle.c_passes.proofs.written.written_functions.Goals as goal

pub loop-number-init : goal.loop-number-init
loop-number-init c = none_so_far _ _ c.new-made.ensures.items

pub function-requires-clause-number : goal.function-requires-clause-number
function-requires-clause-number c =
    omega (
      arith,
      c.loop-number-test.true,
      c.count-number-end.ensures,
      functions_count (shape_seen c.args.shape.now) (code_of c.args.code.now) c.requires.shape,
    )

pub loop-number-preserved : goal.loop-number-preserved
loop-number-preserved c =
    one_more _ _ _ _ c.in_ok-function.field-0 c.loop-number.invariant
    (λ g there. one_function (written_file (shape_seen c.args.shape.now) (code_of c.args.code.now)).functions
    c.loop-number.number c.in_ok-function.field-0 g c.in_ok-function.ensures there)
    c.in_ok-push.ensures.items

pub returns : goal.returns
returns c =
    all_so_far c.loop-number.made.items (written_file (shape_seen c.args.shape.now) (code_of c.args.code.now)).functions
    c.loop-number.number (omega (arith, c.count-number-end.ensures, c.loop-number-test.false)) c.loop-number.invariant
