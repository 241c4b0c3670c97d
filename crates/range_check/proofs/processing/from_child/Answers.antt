use Rattle.std.proofs.Common.{◌≡◌, [], arith, refl}
use Rattle.std.proofs.lemmas.List.{nil_from_length}
use Rattle.range_check.proofs.WayLemmas.{from_child_first, from_child_step, from_child_last}
use Rattle.range_check.proofs.processing.from_child.Goals as goal

pub loop-way-init : goal.loop-way-init
loop-way-init c = from_child_first _ _ _ _ _ c.stays-all.ensures refl

pub loop-way-preserved : goal.loop-way-preserved
loop-way-preserved c =
    from_child_step _ _ _ _ _ c.in-Some.way _ _ c.in-Some.ensures.items c.in_ok-all.ensures c.loop-way.invariant

pub returns : goal.returns
returns c =
    let empty : c.loop-way.left.items ≡ [] =
    nil_from_length _ (omega (arith, c.in_default.ensures.cases, c.loop-way.left.ok.0)) in
    from_child_last _ _ _ _ _ empty c.loop-way.invariant
