use Rattle.std.proofs.Common.{arith, ◌∙◌, ap, ◌≡◌}
use Rattle.active_config.specs.Tree.{state_count}
use Rattle.chart_structure.proofs.PassLemmas.{states_start, states_more, states_first, states_pairs}
use Rattle.chart_structure.proofs.pass.with_states.Goals as goal

pub loop-state-init : goal.loop-state-init
loop-state-init c = states_start _ _ c.requires.sized c.requires.fresh

pub loop-state-preserved : goal.loop-state-preserved
loop-state-preserved c = let e = c.in_ok-found.ensures in
    states_more _ _ _ _ _ _ _ _ c.loop-state.invariant c.with_lists.auto.marks e.below e.one e.old e.new e.pairs

pub returns-clause-first : goal.returns-clause-first
returns-clause-first c =
    let n : c.len-state-end.result ≡ state_count c.args.net.now.tree = c.len-state-end.ensures.count
    ∙ ap state_count c.shape.ensures.tree in
    states_first _ _ _ _ _ (omega arith) c.loop-state.invariant

pub returns-clause-pairs : goal.returns-clause-pairs
returns-clause-pairs c =
    let n : c.len-state-end.result ≡ state_count c.args.net.now.tree = c.len-state-end.ensures.count
    ∙ ap state_count c.shape.ensures.tree in
    states_pairs _ _ _ _ _ (omega arith) c.loop-state.invariant
