use Rattle.std.proofs.Common.{sym, ◌∙◌}
use Rattle.std.proofs.lemmas.Result.{IfOk-weaker}
use Rattle.c_functions.proofs.PlansTests.{on_is_c}
use Rattle.c_shape.specs.FileShapes.{shape_seen}
use Rattle.c_writer.proofs.conditions.on_test.Goals as goal

pub returns : goal.returns
returns c =
    IfOk-weaker c.on_test.result _ _ (λ test e. e ∙ sym (on_is_c (shape_seen c.args.shape.now) c.args.state))
    c.on_test.ensures
