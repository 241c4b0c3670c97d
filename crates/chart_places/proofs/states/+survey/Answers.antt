use Rattle.std.proofs.Common.{◌≡◌, ◌++◌, ap, ◌∙◌, List, map, ℕ, subst, arith}
use Rattle.std.specs.Prelude.{vec_len, OnOk}
use Rattle.flow_base.specs.Lists.{items_of}
use Rattle.chart_tree.specs.declared.state.StateText.{StateText, out-StateText}
use Rattle.chart_tree.specs.Views.{state_of}
use Rattle.chart_places.specs.Placed.{Placed}
use Rattle.chart_places.specs.Survey.{placed_of, placed_row}
use Rattle.chart_places.proofs.SurveyLemmas.{placed-after, row-next}
use Rattle.chart_places.proofs.states.+survey.Goals as goal

pub place_state-returns : goal.place_state-returns
place_state-returns t c =
    let m = vec_len c.push.new.self in
    let pushed = map placed_of c.push.new.self.items in
    let same =
    ap (λ (ss : List StateText). pushed ++ placed_row c.len-number.result m (map state_of ss)) c.items.ensures
    ∙ ap (λ (n : ℕ). pushed ++ placed_row n m (map state_of (items_of (out-StateText c.args.state.now).states)))
    c.len-number.ensures
    ∙ placed-after c.args.places.now.items c.push.new.self.items c.args.parent (vec_len c.args.places.now) m
    c.args.state c.in_ok-push.ensures.items c.in_ok-push.ensures.len in
    subst (λ (ps : List Placed). OnOk c.place_below.result (map placed_of c.place_below.new.places.items ≡ ps)) same
    c.place_below.ensures

-- the states below one more child state are placed
pub place_below-loop-state-preserved : goal.place_below-loop-state-preserved
place_below-loop-state-preserved t c =
    let olds = c.loop-state.places in
    let news = c.place_state.new.places in
    row-next c.args.parent olds.items news.items olds.len news.len c.args.states.now c.loop-state.state-index
    c.state-item.result _ c.loop-state-test.true c.state-item.is (omega (arith, olds.ok.0)) (omega (arith, news.ok.0))
    c.in_ok-place_state.ensures c.loop-state.invariant
