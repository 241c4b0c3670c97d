use Rattle.std.proofs.Common.{refl}
use Rattle.c_shape.specs.FileShapes.{shape_seen}
use Rattle.c_expression_writer.proofs.LeafLemmas.{active_written}
use Rattle.c_expression_writer.proofs.leaves.active.Goals as goal

pub returns : goal.returns
returns c lines =
    active_written (shape_seen c.args.shape.now) lines c.args.next c.args.state _ c.in_ok-on_test.ensures refl refl tt
