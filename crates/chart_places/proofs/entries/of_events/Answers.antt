use Rattle.chart_places.specs.Tables.{event_name}
use Rattle.chart_places.proofs.LoopLemmas.{mapped-next}
use Rattle.chart_places.proofs.entries.of_events.Goals as goal

-- one more name
pub loop-event-preserved : goal.loop-event-preserved
loop-event-preserved c =
    let so_far = c.loop-event in
    mapped-next event_name c.args.events.now so_far.event-index c.event-item.result _ _ c.loop-event-test.true
    c.event-item.is so_far.invariant c.in_ok-push.ensures
