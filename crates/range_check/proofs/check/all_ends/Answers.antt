use Rattle.std.proofs.Common.{◌≡◌, [], arith, refl}
use Rattle.std.proofs.lemmas.List.{nil_from_length}
use Rattle.range_check.proofs.CheckLemmas.{ending_first, ending_step, ending_last}
use Rattle.range_check.proofs.check.all_ends.Goals as goal

pub loop-way-init : goal.loop-way-init
loop-way-init c = ending_first _ _ _ _ refl refl

pub loop-way-preserved : goal.loop-way-preserved
loop-way-preserved c =
    ending_step _ _ _ _ c.in-Some.way _ _ c.in-Some.ensures.items c.in_ok-all.ensures c.loop-way.invariant

pub returns : goal.returns
returns c =
    let empty : c.loop-way.left.items ≡ [] =
    nil_from_length _ (omega (arith, c.in_default.ensures.cases, c.loop-way.left.ok.0)) in
    ending_last _ _ _ _ empty c.loop-way.invariant
