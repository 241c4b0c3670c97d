use Rattle.std.proofs.Common.{refl}
use Rattle.std.proofs.lemmas.Option.{slice_get_read}
use Rattle.chart_net.proofs.net.Net.take_at.Goals as goal

pub take-requires-clause-running : goal.take-requires-clause-running
take-requires-clause-running g c =
    c.requires.running _ (slice_get_read _ _ _ _ refl c.requires.there c.index_mut-seat.ensures.value)

pub take-requires-clause-event : goal.take-requires-clause-event
take-requires-clause-event g c =
    c.requires.event _ (slice_get_read _ _ _ _ refl c.requires.there c.index_mut-seat.ensures.value)

pub take-requires-clause-item : goal.take-requires-clause-item
take-requires-clause-item g c =
    c.requires.item _ (slice_get_read _ _ _ _ refl c.requires.there c.index_mut-seat.ensures.value)

pub take-requires-clause-index : goal.take-requires-clause-index
take-requires-clause-index g c =
    c.requires.index _ (slice_get_read _ _ _ _ refl c.requires.there c.index_mut-seat.ensures.value)

-- the chart that moved is the one at that place, and the others stay
pub returns-clause-moves : goal.returns-clause-moves
returns-clause-moves g c = record {
  before = c.index_mut-seat.result.now;
  after = c.take.new.self;
  there = slice_get_read _ _ _ _ refl c.requires.there c.index_mut-seat.ensures.value;
  is = refl;
  change = c.take.ensures.moves;
}
