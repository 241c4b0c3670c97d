use Rattle.std.proofs.lemmas.Result.{on_ok_weaker}
use Rattle.flow_base.specs.Lists.{items_of}
use Rattle.c_shape.specs.FileShapes.{shape_seen}
use Rattle.c_writer.specs.Pieces.{turn_before}
use Rattle.c_writer.proofs.Ending.{ends}
use Rattle.c_writer.proofs.plays.put_turn.Goals as goal

pub returns : goal.returns
returns c =
    on_ok_weaker c.put_turn_before.result (ends (items_of c.args.lines.now) (items_of c.put_turn_before.new.lines)
    (turn_before (shape_seen c.args.shape.now))) c.put_turn_before.ensures
