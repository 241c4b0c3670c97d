use Rattle.std.proofs.lemmas.Result.{on_ok_weaker}
use Rattle.flow_base.specs.Lists.{items_of}
use Rattle.c_shape.specs.FileShapes.{shape_seen}
use Rattle.c_expression_writer.proofs.FaultLemmas.{fault_written}
use Rattle.c_expression_writer.proofs.lines.write_fault.Goals as goal

pub returns : goal.returns
returns c =
    on_ok_weaker c.put.result
    (fault_written (shape_seen c.args.shape.now) (items_of c.args.out.now) (items_of c.tell_fault.new.out)
    (items_of c.put.new.out) c.args.fault c.fault_number.result c.fault_datum.result c.number.result
    c.fault_number.ensures c.fault_datum.ensures c.number.ensures c.in_ok-tell_fault.ensures)
    c.put.ensures
