use Rattle.std.proofs.lemmas.Result.{on_ok_weaker}
use Rattle.flow_base.specs.Lists.{items_of}
use Rattle.c_shape.specs.FileShapes.{shape_seen}
use Rattle.c_writer.proofs.StoreLemmas.{fields_put}
use Rattle.c_writer.proofs.starts.put_fields.Goals as goal

pub returns : goal.returns
returns c =
    on_ok_weaker c.put_zeros-3.result (fields_put (shape_seen c.args.shape.now) c.items-vars.result.now
    c.used_field-used.result c.ors-ors.result c.len-states.result (items_of c.args.lines.now)
    (items_of c.put_data.new.lines) (items_of c.put_zeros.new.lines) (items_of c.put_zeros-2.new.lines)
    (items_of c.put_zeros-3.new.lines) c.items-vars.ensures c.used_field-used.ensures c.ors-ors.ensures.ors
    c.len-states.ensures.count c.in_ok-put_data.ensures c.in_ok-put_zeros.ensures c.in_ok-put_zeros-2.ensures)
    c.put_zeros-3.ensures
