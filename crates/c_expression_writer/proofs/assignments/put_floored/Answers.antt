use Rattle.std.proofs.lemmas.Result.{on_ok_weaker}
use Rattle.flow_base.specs.Lists.{items_of}
use Rattle.c_subset.specs.Lines.{expr_of}
use Rattle.c_shape.specs.FileShapes.{shape_seen}
use Rattle.c_expression_writer.proofs.StoreLemmas.{floored_set, floored_divided}
use Rattle.c_expression_writer.proofs.assignments.put_floored.Goals as goal

pub returns-then-from-frac : goal.returns-then-from-frac
returns-then-from-frac c =
    on_ok_weaker c.put.result
    (floored_set (shape_seen c.args.shape.now) (items_of c.args.out.now) (items_of c.put.new.out) c.args.local
    c.args.from.frac c.args.from.size c.args.frac (expr_of c.args.expr) (expr_of c.in_ok-value.value)
    c.floored_width-width.result c.if-from-frac.true c.floored_width-width.ensures c.in_ok-value.ensures)
    c.put.ensures

pub returns : goal.returns
returns c =
    on_ok_weaker c.put_division.result
    (floored_divided (shape_seen c.args.shape.now) (items_of c.args.out.now)
    (items_of c.put_division.new.out) c.args.local
    c.args.from.frac c.args.from.size c.args.frac (expr_of c.args.expr) (expr_of c.power-divisor.result)
    c.floored_width-width.result c.if-from-frac.false c.floored_width-width.ensures c.power-divisor.ensures)
    c.put_division.ensures
