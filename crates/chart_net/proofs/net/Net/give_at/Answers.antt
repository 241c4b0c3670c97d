use Rattle.std.proofs.Common.{refl}
use Rattle.std.proofs.lemmas.Option.{slice_get_read}
use Rattle.chart_net.proofs.net.Net.give_at.Goals as goal

pub give-requires-clause-given : goal.give-requires-clause-given
give-requires-clause-given g c =
    c.requires.given _ (slice_get_read _ _ _ _ refl c.requires.there c.index_mut-seat.ensures.value)

pub give-requires-clause-index : goal.give-requires-clause-index
give-requires-clause-index g c =
    c.requires.index _ (slice_get_read _ _ _ _ refl c.requires.there c.index_mut-seat.ensures.value)

-- the chart that moved is the one at that place, and the others stay
pub returns-clause-moves : goal.returns-clause-moves
returns-clause-moves g c = record {
  before = c.index_mut-seat.result.now;
  after = c.give.new.self;
  there = slice_get_read _ _ _ _ refl c.requires.there c.index_mut-seat.ensures.value;
  is = refl;
  change = c.give.ensures.moves;
}
