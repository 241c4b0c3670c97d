use Rattle.std.proofs.Common.{◌≡◌, [], arith, refl}
use Rattle.std.proofs.lemmas.List.{nil_from_length}
use Rattle.range_worlds.proofs.Leading.{underway_first, underway_step, underway_last}
use Rattle.range_blocks.proofs.sends.heard.Goals as goal

pub loop-x-init : goal.loop-x-init
loop-x-init c = underway_first _ _ _ _ _ refl

pub loop-x-preserved : goal.loop-x-preserved
loop-x-preserved c =
    underway_step _ _ _ _ _ c.in-Some.x _ _ c.in-Some.ensures.items (λ _ w h. c.in_ok-outs.ensures.kept.kept w h)
    c.in_ok-outs.ensures.ends c.loop-x.invariant

pub returns : goal.returns
returns c =
    let empty : c.loop-x.left.items ≡ [] =
    nil_from_length _ (omega (arith, c.in_default.ensures.cases, c.loop-x.left.ok.0)) in
    underway_last _ _ _ _ _ empty c.loop-x.invariant
