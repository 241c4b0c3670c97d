use Rattle.std.proofs.Common.{◌≡◌, [], ◌∷◌, ◌++◌, ap, ◌∙◌}
use Rattle.active_config.specs.declared.comp.Comp.{Comp}
use Rattle.chart_places.specs.Placed.{placed_comp}
use Rattle.chart_places.specs.Survey.{placed_of}
use Rattle.chart_places.proofs.LoopLemmas.{mapped_twice-next}
use Rattle.chart_places.proofs.tree.comps.Goals as goal

-- one more composition
pub loop-place-preserved : goal.loop-place-preserved
loop-place-preserved c =
    let so_far = c.loop-place in
    let place = c.place-item.result in
    let more : c.push.new.self.items ≡ so_far.comps.items ++ placed_comp (placed_of place) ∷ [] =
    c.in_ok-push.ensures.items ∙ ap (λ (comp : Comp). so_far.comps.items ++ comp ∷ []) c.placed_comp.ensures in
    mapped_twice-next placed_of placed_comp c.args.states.now so_far.place-index place _ _
    c.loop-place-test.true c.place-item.is so_far.invariant more
