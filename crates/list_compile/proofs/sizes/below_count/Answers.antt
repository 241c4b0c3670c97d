use Rattle.std.proofs.Common.{◌∙◌, sym, arith}
use Rattle.chart_code.specs.Ends.{below_count}
use Rattle.chart_code.proofs.EndsLemmas.{end_is}
use Rattle.list_compile.proofs.EndTurns.{below_before, other_after}
use Rattle.list_compile.proofs.sizes.below_count.Goals as goal
use Rattle.list_compile.proofs.sizes.below_count.Goals.{then-loop-next-test+else-is_below, else-loop-next-test}

pub overflow_add-next : goal.overflow_add-next
overflow_add-next c = omega (arith, c.requires.state, c.len-count.ensures.count)

pub loop-next-init : goal.loop-next-init
loop-next-init c = record {
  after = omega arith;
  within = omega (arith, (end_is c.args.shape.now c.requires.tree c.args.state c.requires.state).after);
}

pub loop-next-smaller : goal.loop-next-smaller
loop-next-smaller c =
    let lt =
    below_before c.args.shape.now c.requires.tree c.args.state c.loop-next.next c.requires.state
    (omega (arith, c.loop-next-test.true, c.len-count.ensures.count)) c.loop-next.invariant.after
    (sym c.is_below.ensures ∙ c.if-is_below.true) in
    omega (arith, lt)

pub loop-next-preserved : goal.loop-next-preserved
loop-next-preserved c =
    let lt =
    below_before c.args.shape.now c.requires.tree c.args.state c.loop-next.next c.requires.state
    (omega (arith, c.loop-next-test.true, c.len-count.ensures.count)) c.loop-next.invariant.after
    (sym c.is_below.ensures ∙ c.if-is_below.true) in
    record { after = omega (arith, c.loop-next.invariant.after); within = omega (arith, lt) }

pub returns : goal.returns
unfolding below_count
returns c =
    let t = c.args.shape.now in
    let s = c.args.state in
    let inv = c.loop-next.invariant in
    elim c.loop-next-test.branch [
      | then-loop-next-test+else-is_below w ↦
          omega (
            arith,
            inv.within,
            other_after t c.requires.tree s c.loop-next.next c.requires.state
                (omega (arith, w.loop-next-test.true, c.len-count.ensures.count)) inv.after
                (sym w.is_below.ensures ∙ w.if-is_below.false),
          )
      | else-loop-next-test w ↦
          omega (
            arith,
            inv.within,
            w.loop-next-test.false,
            c.len-count.ensures.count,
            (end_is t c.requires.tree s c.requires.state).within,
          )
    ]
