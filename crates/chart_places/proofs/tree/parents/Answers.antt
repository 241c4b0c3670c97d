use Rattle.std.proofs.Common.{◌≡◌, ℕ, [], ◌∷◌, ◌++◌, ap, ◌∙◌}
use Rattle.std.specs.Option.{unwrap_or}
use Rattle.chart_places.specs.Placed.{Placed}
use Rattle.chart_places.specs.Survey.{placed_of}
use Rattle.chart_places.proofs.LoopLemmas.{mapped_twice-next}
use Rattle.chart_places.proofs.tree.parents.Goals as goal

-- one more parent
pub loop-place-preserved : goal.loop-place-preserved
loop-place-preserved c =
    let so_far = c.loop-place in
    let place = c.place-item.result in
    let more : c.push.new.self.items ≡ so_far.parents.items ++ unwrap_or place.parent 0 ∷ [] =
    c.in_ok-push.ensures.items ∙ ap (λ (parent : ℕ). so_far.parents.items ++ parent ∷ []) c.unwrap_or.ensures in
    mapped_twice-next placed_of (λ (p : Placed). unwrap_or p.parent 0) c.args.states.now so_far.place-index
    place _ _ c.loop-place-test.true c.place-item.is so_far.invariant more
