use Rattle.std.proofs.Common.{suc}
use Rattle.c_subset.specs.Lines.{expr_of}
use Rattle.c_functions.specs.Layout.{on_c}
use Rattle.c_functions.specs.Plans.{layout}
use Rattle.checked_chart.proofs.Walks.{ahead_falls}
use Rattle.c_shape.specs.FileShapes.{shape_seen}
use Rattle.c_shape.proofs.ChildLemmas.{tests_start, tests_more, tests_end}
use Rattle.c_shape.proofs.file_shape.FileShape.on_and_no_bits.Goals as goal

pub loop-next-init : goal.loop-next-init
loop-next-init c =
    let K = shape_seen c.args.self.now in
    tests_start (layout K) K.tree c.args.state (on_c K.tree (layout K) (λ x. suc x) c.args.state)
    c.first_child-next.result _ c.len.ensures.tree c.first_child-next.ensures.child c.in_ok-test.ensures

pub and_unset-requires : goal.and_unset-requires
and_unset-requires c = (c.loop-next.invariant.stands.child c.in-Some.child c.in-Some.is).within

pub next_sibling-next-requires : goal.next_sibling-next-requires
next_sibling-next-requires c = (c.loop-next.invariant.stands.child c.in-Some.child c.in-Some.is).within

pub loop-next-preserved : goal.loop-next-preserved
loop-next-preserved c =
    let K = shape_seen c.args.self.now in
    tests_more (layout K) K.tree c.args.state c.in-Some.child (on_c K.tree (layout K) (λ x. suc x) c.args.state)
    c.loop-next.next c.next_sibling-next.result (expr_of c.loop-next.test)
    (expr_of c.in_ok-test-2.test) c.len.ensures.tree
    c.in-Some.is c.loop-next.invariant c.next_sibling-next.ensures.sibling c.in_ok-test-2.ensures

pub returns : goal.returns
returns c =
    let K = shape_seen c.args.self.now in
    tests_end (layout K) K.tree c.args.state (on_c K.tree (layout K) (λ x. suc x) c.args.state) c.loop-next.next
    (expr_of c.loop-next.test) c.in_default.is c.loop-next.invariant

pub loop-next-smaller : goal.loop-next-smaller
loop-next-smaller c =
    ahead_falls c.args.self.now.tree.now c.in-Some.child c.loop-next.next _ c.in-Some.is
    (c.loop-next.invariant.stands.child c.in-Some.child c.in-Some.is).within c.next_sibling-next.ensures.after
