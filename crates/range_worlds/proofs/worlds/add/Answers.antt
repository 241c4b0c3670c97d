use Rattle.std.proofs.Common.{◌≡◌, [], arith, refl, Bool, true, false}
use Rattle.std.specs.Bool.{OnTrue}
use Rattle.std.proofs.lemmas.List.{nil_from_length}
use Rattle.range_worlds.proofs.Leading.{adding_none, adding_first, adding_step, adding_last, pushed}
use Rattle.range_worlds.proofs.worlds.add.Goals as goal

empty_of : {P : Type 0} (b : Bool) → b ≡ true → OnTrue b P → P
empty_of true e h = h
empty_of false e h = absurd cc

pub returns-then-is_empty : goal.returns-then-is_empty
returns-then-is_empty c = adding_none _ _ _ (empty_of _ c.if-is_empty.true c.is_empty.ensures)

pub loop-y-preserved : goal.loop-y-preserved
loop-y-preserved c =
    adding_step _ _ _ _ _ c.in-Some.y _ _ c.in-Some.ensures.items c.in_ok-merge.ensures c.loop-y.invariant

pub loop-y-init : goal.loop-y-init
loop-y-init c = adding_first _ _ _ _ _ _ refl refl

pub returns : goal.returns
returns c =
    let empty : c.loop-y.left.items ≡ [] =
    nil_from_length _ (omega (arith, c.in_default.ensures.cases, c.loop-y.left.ok.0)) in
    adding_last _ _ _ _ _ _ _ empty (pushed _ _ _ _ c.in_ok-all.ensures) c.loop-y.invariant
