use Rattle.std.proofs.lemmas.Result.{on_ok_weaker}
use Rattle.flow_base.specs.Lists.{items_of}
use Rattle.c_shape.specs.FileShapes.{shape_seen}
use Rattle.c_expression_writer.proofs.StoreLemmas.{flag_stored}
use Rattle.c_expression_writer.proofs.assignments.store_operand.Goals as goal

pub returns-in-Flag-default : goal.returns-in-Flag-default
returns-in-Flag-default c =
    on_ok_weaker c.put-in-Flag-default.result
    (flag_stored (shape_seen c.args.shape.now) (items_of c.args.out.now) (items_of c.put-in-Flag-default.new.out)
    c.args.datum c.args.sort c.args.mode c.args.operand c.in-Flag-default.is-0)
    c.put-in-Flag-default.ensures
