use Rattle.std.proofs.Common.{subst, sym}
use Rattle.std.proofs.lemmas.Result.{IfOk-weaker}
use Rattle.flow_base.specs.Lists.{items_of}
use Rattle.actions.specs.Sorts.{binary_sort}
use Rattle.c_functions.specs.Translation.{Flat, sort_in}
use Rattle.c_shape.specs.FileShapes.{shape_seen}
use Rattle.c_expression_writer.specs.Written.{IsWritten}
use Rattle.c_expression_writer.proofs.Composed.{seen_eager}
use Rattle.c_expression_writer.proofs.expressions.join.Goals as goal

pub returns-in_default : goal.returns-in_default
returns-in_default c =
    let K = shape_seen c.args.shape.now in let o = items_of c.args.out.now in
    let s = sort_in (binary_sort c.args.op c.args.left.sort c.args.right.sort) in
    IfOk-weaker c.eager.result _ _
    (λ x h. subst (λ (f : Flat). IsWritten K o o f s x)
    (sym (seen_eager c.args.op c.args.left.sort c.args.right.sort c.args.left c.args.right c.in_default.not-Div))
    (h K o))
    c.eager.ensures
