use Rattle.std.proofs.Common.{arith}
use Rattle.chart_structure.proofs.ListLemmas.{junctions_start, junctions_more, junctions_new, junctions_empty}
use Rattle.chart_structure.proofs.lists.with_junctions.Goals as goal

pub loop-junction-init : goal.loop-junction-init
loop-junction-init c = junctions_start _ _ _ _ _ c.requires.one

pub loop-junction-preserved : goal.loop-junction-preserved
loop-junction-preserved c =
    let e = c.with_junction-kept.ensures in
    junctions_more _ _ _ _ _ _ _ _ c.loop-junction.invariant e.one e.old e.new e.empty

pub returns-clause-one : goal.returns-clause-one
returns-clause-one c = c.loop-junction.invariant.one

pub returns-clause-old : goal.returns-clause-old
returns-clause-old c = c.loop-junction.invariant.old

pub returns-clause-new : goal.returns-clause-new
returns-clause-new c = junctions_new _ _ _ _ _ _ _ (omega arith) c.loop-junction.invariant

pub returns-clause-empty : goal.returns-clause-empty
returns-clause-empty c = junctions_empty _ _ _ _ _ _ _ (omega arith) c.loop-junction.invariant
