use Rattle.std.specs.Prelude.{suc}
use Rattle.c_subset.specs.Lines.{expr_of}
use Rattle.c_functions.specs.Layout.{on_c}
use Rattle.c_functions.specs.Plans.{layout}
use Rattle.checked_chart.proofs.Walks.{ahead}
use Rattle.c_shape.specs.FileShapes.{shape_seen}
use Rattle.c_shape.proofs.ChildLemmas.{TestsBefore}
use Rattle.c_shape.proofs.file_shape.FileShape.on_and_no_bits.Given as goal

-- the children before where the walk stands are tested
abbrev pub invariant-loop-next : goal.invariant-loop-next
invariant-loop-next l =
    let K = shape_seen l.self in
    TestsBefore (layout K) K.tree l.state (on_c K.tree (layout K) (λ x. suc x) l.state) l.next (expr_of l.test)

abbrev pub decreases-loop-next : goal.decreases-loop-next
decreases-loop-next l = ahead (shape_seen l.self).tree l.next
