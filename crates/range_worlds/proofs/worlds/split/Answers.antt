use Rattle.std.proofs.Common.{◌≡◌, [], arith}
use Rattle.std.proofs.lemmas.List.{nil_from_length}
use Rattle.range_worlds.proofs.SplitLemmas.{parting_step, parting_last}
use Rattle.range_worlds.proofs.worlds.split.Goals as goal

pub loop-x-preserved : goal.loop-x-preserved
loop-x-preserved c =
    parting_step _ _ _ _ _ c.in-Some.x _ _ _ c.in-Some.ensures.items c.in_ok-passed.ensures c.in_ok-parts.ensures
    c.loop-x.invariant

pub returns : goal.returns
returns c =
    let empty : c.loop-x.left.items ≡ [] =
    nil_from_length _ (omega (arith, c.in_default.ensures.cases, c.loop-x.left.ok.0)) in
    parting_last _ _ _ _ _ _ empty c.loop-x.invariant
