use Rattle.std.proofs.lemmas.Result.{IfOk-weaker}
use Rattle.code_language.specs.Code.{code_of}
use Rattle.c_shape.specs.FileShapes.{shape_seen}
use Rattle.c_passes.specs.Passed.{written_file}
use Rattle.c_passes.proofs.chain.joined_functions.Goals as goal

pub returns : goal.returns
returns c =
    let K = shape_seen c.args.shape.now in
    let file = written_file K (code_of c.args.code.now) in
    IfOk-weaker c.joined-2.result _ _
    (λ made ends. ends K file (c.in_ok-once.ensures K file (c.in_ok-tidy.ensures K file (c.in_ok-bare.ensures file c.in_ok-begun.ensures)))) c.joined-2.ensures
