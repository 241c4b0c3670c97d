use Rattle.std.proofs.Common.{◌≡◌, Some, sym, ap, ◌∙◌, arith}
use Rattle.active_config.specs.Tree.{parent_of}
use Rattle.checked_chart.proofs.Walks.{climb_next, climb_root, climb_found}
use Rattle.checked_chart.proofs.Trees.{child_is}
use Rattle.checked_chart.proofs.homes.child_toward.Goals as goal

pub loop-parent-preserved : goal.loop-parent-preserved
loop-parent-preserved c =
    let up : parent_of c.args.shape.now c.loop-parent.child ≡ Some c.in-Some.parent = sym c.in-Some.ensures.parent in
    let i = c.loop-parent.invariant.within in
    record {
      within = omega (arith, c.in-Some.ensures.before);
      same =
          sym (climb_next c.args.shape.now c.requires.tree c.args.state c.loop-parent.child c.in-Some.parent up
          (λ e. absurd (omega arith)))
          ∙ c.loop-parent.invariant.same;
    }

pub returns-then-parent-state : goal.returns-then-parent-state
returns-then-parent-state c =
    let up : parent_of c.args.shape.now c.loop-parent.child ≡ Some c.args.state =
    sym c.in-Some.ensures.parent ∙ ap (λ x. Some x) c.if-parent-state.true in
    let i = child_is c.args.shape.now c.requires.tree c.args.state c.loop-parent.child up in
    record {
      child =
          sym (climb_found c.args.shape.now c.requires.tree c.args.state c.loop-parent.child up)
          ∙ c.loop-parent.invariant.same;
      below = (i.above, i.within);
    }

pub returns-clause-child : goal.returns-clause-child
returns-clause-child c =
    sym (climb_root c.args.shape.now c.requires.tree c.args.state c.loop-parent.child (sym c.in_default.ensures.parent))
    ∙ c.loop-parent.invariant.same
