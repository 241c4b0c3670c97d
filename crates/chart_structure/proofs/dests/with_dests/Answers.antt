use Rattle.std.proofs.Common.{arith}
use Rattle.std.proofs.lemmas.Option.{slice_get-get_or}
use Rattle.chart_structure.proofs.DestLemmas.{dests_start, dests_more, dests_all}
use Rattle.chart_structure.proofs.dests.with_dests.Goals as goal

pub loop-arrow-init : goal.loop-arrow-init
loop-arrow-init c = dests_start _ _ _ _ _ c.requires.one

pub with_dest-kept-requires-clause-dest : goal.with_dest-kept-requires-clause-dest
with_dest-kept-requires-clause-dest c =
    c.requires.dests _ (c.loop-arrow.arrow-index, slice_get-get_or _ _ _ c.loop-arrow-test.true)

pub loop-arrow-preserved : goal.loop-arrow-preserved
loop-arrow-preserved c =
    dests_more _ _ _ _ _ _ _ _ _ c.loop-arrow.invariant c.requires.state c.requires.met
    (slice_get-get_or _ _ _ c.loop-arrow-test.true) c.with_dest-kept.ensures

pub returns-clause-one : goal.returns-clause-one
returns-clause-one c = c.loop-arrow.invariant.one

pub returns-clause-old : goal.returns-clause-old
returns-clause-old c = c.loop-arrow.invariant.old

pub returns-clause-new : goal.returns-clause-new
returns-clause-new c = dests_all _ _ _ _ _ _ _ (omega arith) c.loop-arrow.invariant
