use Rattle.std.proofs.Common.{◌≡◌, ◌+◌, ◌++◌, List, map, drop, suc, ap, sym, ◌∙◌, subst, ℕ, arith}
use Rattle.chart_tree.specs.Trees.{Junction}
use Rattle.chart_tree.specs.declared.state.JunctionText.{JunctionText}
use Rattle.chart_tree.specs.Views.{junction_of}
use Rattle.chart_places.specs.declared.states.PlacedState.{PlacedState}
use Rattle.chart_places.specs.Placed.{Owned, owned_by, owned_from, in_text_order, placed_junctions}
use Rattle.chart_places.specs.Survey.{placed_of, owned_of, IsInOrder}
use Rattle.chart_places.proofs.JunctionLemmas.{drop_from, none_left, in_order_all, in_text_order-append}
use Rattle.chart_places.proofs.SurveyLemmas.{junctions-seen}
use Rattle.chart_places.proofs.junctions.collect.Goals as goal

pub loop-i-preserved : goal.loop-i-preserved
loop-i-preserved c =
    let now = map owned_of c.loop-i.all.items in
    let s = c.loop-i.i in
    let place = c.index-states-i.result in
    let rest = map placed_of (drop (s + 1) c.args.states.now) in
    let own : List Junction = map junction_of c.items.result.now in
    let is : (placed_of place).parts.junctions ≡ own =
    junctions-seen place.state.now ∙ ap (λ (js : List JunctionText). map junction_of js) (sym c.items.ensures) in
    let left : owned_from s (map placed_of (drop s c.args.states.now))
    ≡ owned_by s (placed_of place).parts.junctions ++ owned_from (suc s) rest =
    ap (λ (ps : List PlacedState). owned_from s (map placed_of ps))
    (drop_from c.args.states.now s place c.loop-i-test.true c.index-states-i.is) in
    let next : s + 1 ≡ suc s = omega arith in
    record {
      same =
          ap (λ (done : List Owned). in_text_order done (owned_from (s + 1) rest)) c.in_ok-place_junctions.ensures
          ∙ sym (in_text_order-append now (owned_by s own) (owned_from (s + 1) rest))
          ∙ ap (λ (n : ℕ). in_text_order now (owned_by s own ++ owned_from n rest)) next
          ∙ ap (λ (js : List Junction). in_text_order now (owned_by s js ++ owned_from (suc s) rest)) (sym is)
          ∙ sym (ap (in_text_order now) left)
          ∙ c.loop-i.invariant.same;
      order =
          subst IsInOrder (sym c.in_ok-place_junctions.ensures)
          (in_order_all now (owned_by s own) c.loop-i.invariant.order);
    }

pub returns : goal.returns
unfolding placed_junctions
returns c =
    let now = map owned_of c.loop-i.all.items in
    sym (ap (λ (ps : List PlacedState). in_text_order now (owned_from c.loop-i.i (map placed_of ps)))
    (none_left c.args.states.now c.loop-i.i c.loop-i-test.false))
    ∙ c.loop-i.invariant.same
