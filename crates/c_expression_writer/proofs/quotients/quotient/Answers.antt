use Rattle.std.proofs.Common.{refl, ap, ◌∙◌}
use Rattle.flow_base.specs.Lists.{items_of}
use Rattle.c_subset.specs.Lines.{expr_of}
use Rattle.c_functions.specs.Translation.{sort_in}
use Rattle.c_shape.specs.FileShapes.{shape_seen}
use Rattle.c_expression_writer.proofs.Composed.{quotient_step}
use Rattle.c_expression_writer.proofs.quotients.quotient.Goals as goal

pub returns-in_ok-put_division-in-Ok : goal.returns-in_ok-put_division-in-Ok
returns-in_ok-put_division-in-Ok c =
    quotient_step (shape_seen c.args.shape.now) (items_of c.args.out.now) (items_of c.put_divisor.new.out)
    (items_of c.put_division.new.out) c.args.left.sort c.args.right.sort _ c.args.left c.args.right _
    c.division_width-width.result (expr_of c.in_ok-dividend-in-Ok.dividend) c.division_width-width.ensures
    c.in-Ok.ensures c.in_ok-dividend-in-Ok.ensures c.in_ok-put_division-in-Ok.ensures refl refl
    (c.sort_in-sort.ensures.sort ∙ ap sort_in c.binary_sort.ensures.sort) c.sort_in-sort.ensures.narrow
