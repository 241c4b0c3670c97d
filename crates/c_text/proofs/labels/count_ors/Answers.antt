use Rattle.std.proofs.Common.{◌+◌, sym, ◌∙◌, ap, arith}
use Rattle.active_config.specs.Tree.{is_or}
use Rattle.c_text.proofs.RankLemmas.{rank-none, rank-more, rank-same, rank-all, rank-few}
use Rattle.c_text.proofs.labels.count_ors.Goals as goal
use Rattle.c_text.proofs.labels.count_ors.Goals.{then-is_or, else-is_or}

pub loop-state-init : goal.loop-state-init
loop-state-init c = sym (rank-none c.args.tree.now)

pub overflow_add-ors : goal.overflow_add-ors
overflow_add-ors c =
    let few = rank-few c.args.tree.now c.loop-state.state in
    omega arith

pub loop-state-preserved : goal.loop-state-preserved
loop-state-preserved c =
    elim c.if-is_or.branch [
      | then-is_or w ↦
          w.ors-is ∙ ap (λ n. n + 1) c.loop-state.invariant
          ∙ sym (rank-more c.args.tree.now c.loop-state.state (omega (arith, c.len-state-end.ensures.tree.same_length))
          (ap is_or (sym c.comp.ensures) ∙ sym c.is_or.ensures ∙ w.if-is_or.true))
      | else-is_or w ↦
          w.ors-is ∙ c.loop-state.invariant
          ∙ sym (rank-same c.args.tree.now c.loop-state.state (omega (arith, c.len-state-end.ensures.tree.same_length))
          (ap is_or (sym c.comp.ensures) ∙ sym c.is_or.ensures ∙ w.if-is_or.false))
    ]

pub returns : goal.returns
returns c =
    c.loop-state.invariant
    ∙ rank-all c.args.tree.now c.loop-state.state (omega (arith, c.len-state-end.ensures.tree.same_length))
