use Rattle.std.proofs.lemmas.Result.{on_ok_weaker}
use Rattle.flow_base.specs.Lists.{items_of}
use Rattle.c_subset.specs.Lines.{expr_of}
use Rattle.c_shape.specs.FileShapes.{shape_seen}
use Rattle.c_expression_writer.proofs.StoreLemmas.{checked_store}
use Rattle.c_expression_writer.proofs.assignments.store_checked.Goals as goal

pub returns : goal.returns
returns c =
    on_ok_weaker c.put.result
    (checked_store (shape_seen c.args.shape.now) (items_of c.args.out.now) (items_of c.put_fault_if.new.out)
    (items_of c.put.new.out) c.args.datum (expr_of c.in_ok-test.test) _ (expr_of c.value.result) _ c.in_ok-test.ensures
    c.value.ensures c.in_ok-put_fault_if.ensures)
    c.put.ensures
