use Rattle.std.proofs.Common.{arith, refl}
use Rattle.chart_structure.proofs.WalkLemmas.{walk_start, reaches_start, reaches_more, reaches_all, found_few}
use Rattle.chart_structure.proofs.WalkLemmas.{found_within, at_zero}
use Rattle.chart_structure.proofs.reach.reached_from.Goals as goal

pub loop-next-init : goal.loop-next-init
loop-next-init c =
    reaches_start _ _ _ _ _ _ _ _ _
    (walk_start _ _ _ _ _ _ c.requires.sized c.requires.fresh c.new-found.ensures.items refl
    (omega arith)) c.in_ok-pairs.ensures.walk
    c.in_ok-pairs.ensures.marked

pub junction-requires : goal.junction-requires
junction-requires c = let n = c.len.ensures in
    found_within _ _ _ _ _ _ _ _ c.requires.some c.loop-next.invariant.walk (omega arith)
    (at_zero c.loop-next.found.items c.loop-next.next c.index-junction.result.now
    (omega arith) c.index-junction.ensures)

pub loop-next-smaller : goal.loop-next-smaller
loop-next-smaller c = let n = c.len.ensures in let few = found_few _ _ _ _ _ _ c.loop-next.invariant.walk in omega arith

pub loop-next-preserved : goal.loop-next-preserved
loop-next-preserved c = let n = c.len.ensures in let w = c.in_ok-pairs-2.ensures in
    reaches_more _ _ _ _ _ _ _ _ _ _ _ _ c.loop-next.invariant (omega arith)
    (at_zero c.loop-next.found.items c.loop-next.next c.index-junction.result.now
    (omega arith) c.index-junction.ensures) c.junction.ensures.list w.walk w.grows w.marked

pub returns-clause-all : goal.returns-clause-all
returns-clause-all c = let n = c.len.ensures in reaches_all _ _ _ _ _ _ _ c.loop-next.invariant (omega arith)
