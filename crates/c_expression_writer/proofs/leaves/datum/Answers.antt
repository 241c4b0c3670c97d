use Rattle.std.proofs.Common.{refl, ap, ◌∙◌}
use Rattle.c_functions.specs.Translation.{sort_in}
use Rattle.c_shape.specs.FileShapes.{shape_seen}
use Rattle.c_expression_writer.proofs.LeafLemmas.{datum_written}
use Rattle.c_expression_writer.proofs.leaves.datum.Goals as goal

pub returns : goal.returns
returns c lines =
    datum_written (shape_seen c.args.shape.now) lines c.args.next c.args.datum _ refl
    (c.sort_in.ensures.sort ∙ ap sort_in c.datum_sort.ensures.sort) refl c.sort_in.ensures.narrow
