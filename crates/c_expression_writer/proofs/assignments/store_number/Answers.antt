use Rattle.std.proofs.lemmas.Result.{on_ok_weaker}
use Rattle.flow_base.specs.Lists.{items_of}
use Rattle.c_shape.specs.FileShapes.{shape_seen}
use Rattle.c_expression_writer.proofs.StoreLemmas.{saturate_stored, signed_stored, low_stored, check_stored}
use Rattle.c_expression_writer.proofs.assignments.store_number.Goals as goal

pub returns-in-Saturate : goal.returns-in-Saturate
returns-in-Saturate c =
    on_ok_weaker c.store_saturated.result
    (saturate_stored (shape_seen c.args.shape.now) (items_of c.args.out.now) (items_of c.put_floored.new.out)
    (items_of c.store_saturated.new.out) c.args.to.datum c.args.from.frac c.args.from.size c.from-frac.result
    c.args.to.scale
    c.args.number c.size_at.result c.floored_width.result c.args.to.mode c.in-Saturate.is c.from-frac.ensures
    c.size_at.ensures.size c.floored_width.ensures c.in_ok-put_floored.ensures)
    c.store_saturated.ensures

pub returns-in-Wrap : goal.returns-in-Wrap
returns-in-Wrap c =
    on_ok_weaker c.store_signed.result
    (signed_stored (shape_seen c.args.shape.now) (items_of c.args.out.now) (items_of c.put_floored.new.out)
    (items_of c.store_signed.new.out) c.args.to.datum c.args.from.frac c.args.from.size c.from-frac.result
    c.args.to.scale
    c.args.number c.size_at.result c.floored_width.result c.args.to.mode c.in-Wrap.is c.if-to.true c.from-frac.ensures
    c.size_at.ensures.size c.floored_width.ensures c.in_ok-put_floored.ensures)
    c.store_signed.ensures

pub returns-in-Wrap-2 : goal.returns-in-Wrap-2
returns-in-Wrap-2 c =
    on_ok_weaker c.store_low.result
    (low_stored (shape_seen c.args.shape.now) (items_of c.args.out.now) (items_of c.put_floored.new.out)
    (items_of c.store_low.new.out) c.args.to.datum c.args.from.frac c.args.from.size c.from-frac.result
    c.args.to.scale
    c.args.number c.size_at.result c.floored_width.result c.args.to.mode c.in-Wrap-2.is c.if-to.false c.from-frac.ensures
    c.size_at.ensures.size c.floored_width.ensures c.in_ok-put_floored.ensures)
    c.store_low.ensures

pub returns-in-Error : goal.returns-in-Error
returns-in-Error c =
    on_ok_weaker c.store_checked.result
    (check_stored (shape_seen c.args.shape.now) (items_of c.args.out.now) (items_of c.put_floored.new.out)
    (items_of c.store_checked.new.out) c.args.to.datum c.args.from.frac c.args.from.size c.from-frac.result
    c.args.to.scale
    c.args.number c.size_at.result c.floored_width.result c.args.to.mode c.in-Error.is c.from-frac.ensures
    c.size_at.ensures.size c.floored_width.ensures c.in_ok-put_floored.ensures)
    c.store_checked.ensures
