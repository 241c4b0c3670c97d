use Rattle.std.proofs.Common.{[], ◌∷◌, ◌++◌, map, sym, ap, ◌∙◌}
use Rattle.chart_tree.specs.declared.name.NameText.{NameText}
use Rattle.chart_places.specs.Survey.{placed_of}
use Rattle.chart_places.specs.Tables.{declared_of, state_name}
use Rattle.chart_places.proofs.SurveyLemmas.{name-seen}
use Rattle.chart_places.proofs.LoopLemmas.{mapped_twice-next}
use Rattle.chart_places.proofs.entries.of_states.Goals as goal

-- one more name
pub loop-place-preserved : goal.loop-place-preserved
loop-place-preserved c =
    let so_far = c.loop-place in
    let place = c.place-item.result in
    let more =
    c.in_ok-push.ensures
    ∙ ap (λ (n : NameText). map declared_of so_far.names.items ++ (record { owner = place.parent; name = n } ∷ []))
    (sym (name-seen place.state.now)) in
    mapped_twice-next placed_of state_name c.args.states.now so_far.place-index place _ _ c.loop-place-test.true
    c.place-item.is so_far.invariant more
