use Rattle.std.proofs.Common.{◌≡◌, ◌∷◌, [], ap, ◌∙◌, map, arith, refl}
use Rattle.std.proofs.lemmas.List.{nil_from_length}
use Rattle.checked_chart.specs.Views.{block_seen}
use Rattle.range_blocks.proofs.FiringLemmas.{extending_first, extending_step, extending_last}
use Rattle.range_blocks.proofs.searches.extended.Goals as goal

pub loop-firing-init : goal.loop-firing-init
loop-firing-init c = extending_first _ _ _ _ _ refl

pub loop-firing-preserved : goal.loop-firing-preserved
loop-firing-preserved c =
    extending_step _ _ _ _ _ _ _ c.in-Some.firing _ c.in-Some.ensures.items c.in_ok-all.ensures refl refl
    (c.in_ok-actions.ensures ∙ ap (λ z. block_seen c.args.action.now ∷ map (λ a. block_seen a.now) z)
    c.deref.ensures.value) c.loop-firing.invariant

pub returns : goal.returns
returns c =
    let empty : c.loop-firing.left.items ≡ [] =
    nil_from_length _ (omega (arith, c.in_default.ensures.cases, c.loop-firing.left.ok.0)) in
    extending_last _ _ _ _ _ empty c.loop-firing.invariant
