use Rattle.std.proofs.Common.{sym, ◌∙◌}
use Rattle.std.proofs.lemmas.Result.{IfOk-weaker}
use Rattle.c_functions.proofs.PlansTests.{bare_is_c}
use Rattle.c_shape.specs.FileShapes.{shape_seen}
use Rattle.c_writer.proofs.conditions.bare_test.Goals as goal

pub returns : goal.returns
returns c =
    IfOk-weaker c.bare_test.result _ _ (λ test e. e ∙ sym (bare_is_c (shape_seen c.args.shape.now) c.args.state))
    c.bare_test.ensures
