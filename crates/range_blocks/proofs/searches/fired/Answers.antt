use Rattle.std.proofs.Common.{◌≡◌, ◌∷◌, [], ◌++◌, ap, ◌∙◌, map, refl}
use Rattle.checked_chart.specs.Views.{block_seen}
use Rattle.range_blocks.specs.declared.searches.Firing.{Firing}
use Rattle.range_blocks.proofs.SearchLemmas.{fired_leads}
use Rattle.range_blocks.proofs.searches.fired.Goals as goal

pub returns : goal.returns
returns c =
    let firing : Firing = record {
      target = c.args.target;
      actions = c.in_ok-actions.actions;
      worlds = c.args.xs;
    } in
    let pushed : c.in_ok-fires.fires.items ≡ [] ++ firing ∷ [] =
    c.in_ok-fires.ensures ∙ ap (λ z. z ++ firing ∷ []) c.new.ensures.items in
    let none : c.deref.result.now ≡ [] = c.deref.ensures.value ∙ c.new-none.ensures.items in
    fired_leads _ _ _ _ firing (record {
      fires = c.in_ok-fires.fires;
      dead = c.new-2.result;
      no = c.new-3.result;
      stop = c.new-4.result;
    }) pushed refl refl
    (c.in_ok-actions.ensures ∙ ap (λ z. block_seen c.args.action.now ∷ map (λ a. block_seen a.now) z) none)
