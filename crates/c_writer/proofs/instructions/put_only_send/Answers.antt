use Rattle.std.proofs.lemmas.Result.{on_ok_weaker}
use Rattle.flow_base.specs.Lists.{items_of}
use Rattle.c_functions.specs.Plans.{procedure_call, plan_c}
use Rattle.c_shape.specs.FileShapes.{shape_seen}
use Rattle.c_writer.specs.Calls.{send_arguments}
use Rattle.c_writer.proofs.Ending.{ends}
use Rattle.c_writer.proofs.instructions.put_only_send.Goals as goal

pub returns : goal.returns
unfolding plan_c
returns c =
    on_ok_weaker c.put_send.result (ends (items_of c.args.lines.now) (items_of c.put_send.new.lines)
    (procedure_call (shape_seen c.args.shape.now) c.args.procedure
    (send_arguments (shape_seen c.args.shape.now) c.args.event))) c.put_send.ensures
