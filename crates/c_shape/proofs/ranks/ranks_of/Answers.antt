use Rattle.std.proofs.Common.{◌+◌, ap, arith}
use Rattle.c_shape.proofs.RankLemmas.{ranks_start, ranks_more, ranks_end}
use Rattle.c_shape.proofs.ranks.ranks_of.Goals as goal

pub loop-state-init : goal.loop-state-init
loop-state-init c = ranks_start c.args.tree.now c.new-ranks.result.items c.new-ranks.ensures.items

pub loop-state-preserved : goal.loop-state-preserved
loop-state-preserved c =
    let test = c.loop-state-test.true in let count = c.len-state-end.ensures.count in
    ranks_more c.args.tree.now c.loop-state.state c.loop-state.ors _ c.loop-state.ranks.items c.push.new.self.items
    c.len-state-end.ensures.tree (omega (arith, test, count)) c.loop-state.invariant c.in_ok-push.ensures.items
    (ap (λ k. c.loop-state.ors + k) c.or_at-ors.ensures)

pub returns : goal.returns
returns c =
    let test = c.loop-state-test.false in let count = c.len-state-end.ensures.count in
    let most = c.loop-state.auto.state-end in
    ranks_end c.args.tree.now c.loop-state.state c.loop-state.ors c.loop-state.ranks.items c.len-state-end.ensures.tree
    (omega (arith, test, count, most)) c.loop-state.invariant
