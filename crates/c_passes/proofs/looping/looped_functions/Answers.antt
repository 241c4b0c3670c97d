use Rattle.std.proofs.lemmas.Result.{IfOk-weaker}
use Rattle.code_language.specs.Code.{code_of}
use Rattle.c_shape.specs.FileShapes.{shape_seen}
use Rattle.c_passes.specs.Passed.{written_file}
use Rattle.c_passes.proofs.PassLemmas.{as_looped}
use Rattle.c_passes.proofs.looping.looped_functions.Goals as goal

pub returns : goal.returns
returns c =
    let K = shape_seen c.args.shape.now in
    IfOk-weaker c.looped.result _ _
    (λ made loop. as_looped K (written_file K (code_of c.args.code.now)) c.in_ok-written.written.items made.items
    c.in_ok-written.ensures loop) c.looped.ensures
