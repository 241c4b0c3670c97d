use Rattle.std.proofs.Common.{◌≡◌, [], arith}
use Rattle.std.proofs.lemmas.List.{nil_from_length}
use Rattle.range_worlds.proofs.Leading.{uniting_step, uniting_last}
use Rattle.range_worlds.proofs.worlds.union.Goals as goal

pub loop-y-preserved : goal.loop-y-preserved
loop-y-preserved c =
    uniting_step _ _ _ _ _ _ _ c.in-Some.y c.in-Some.ensures.items c.in_ok-both.ensures c.loop-y.invariant

pub returns : goal.returns
returns c =
    let empty : c.loop-y.left.items ≡ [] =
    nil_from_length _ (omega (arith, c.in_default.ensures.cases, c.loop-y.left.ok.0)) in
    uniting_last _ _ _ _ _ empty c.loop-y.invariant
