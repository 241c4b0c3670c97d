use Rattle.std.proofs.Common.{◌≡◌, [], arith, refl}
use Rattle.std.proofs.lemmas.List.{nil_from_length}
use Rattle.range_blocks.proofs.FiringLemmas.{gathering_first, gathering_step, gathering_last}
use Rattle.range_blocks.proofs.searches.all_fires.Goals as goal

pub loop-firing-init : goal.loop-firing-init
loop-firing-init c = gathering_first _ _ _ _ _ refl refl

pub loop-firing-preserved : goal.loop-firing-preserved
loop-firing-preserved c =
    gathering_step _ _ _ _ _ _ _ c.in-Some.firing c.in-Some.ensures.items c.in_ok-all.ensures c.loop-firing.invariant

pub returns : goal.returns
returns c =
    let empty : c.loop-firing.left.items ≡ [] =
    nil_from_length _ (omega (arith, c.in_default.ensures.cases, c.loop-firing.left.ok.0)) in
    gathering_last _ _ _ _ _ empty c.loop-firing.invariant
