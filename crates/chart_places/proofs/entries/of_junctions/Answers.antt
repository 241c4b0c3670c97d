use Rattle.chart_places.specs.Survey.{owned_of}
use Rattle.chart_places.specs.Tables.{junction_name}
use Rattle.chart_places.proofs.LoopLemmas.{mapped_twice-next}
use Rattle.chart_places.proofs.entries.of_junctions.Goals as goal

-- one more name
pub loop-owned-preserved : goal.loop-owned-preserved
loop-owned-preserved c =
    let so_far = c.loop-owned in
    mapped_twice-next owned_of junction_name c.args.junctions.now so_far.owned-index c.owned-item.result _ _
    c.loop-owned-test.true c.owned-item.is so_far.invariant c.in_ok-push.ensures
