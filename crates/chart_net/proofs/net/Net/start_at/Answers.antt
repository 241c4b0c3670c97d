use Rattle.std.proofs.Common.{refl}
use Rattle.std.proofs.lemmas.Option.{slice_get_read}
use Rattle.chart_net.proofs.net.Net.start_at.Goals as goal

-- the chart that moved is the one at that place, and the others stay
pub returns-clause-moves : goal.returns-clause-moves
returns-clause-moves g c = record {
  before = c.index_mut-seat.result.now;
  after = c.start.new.self;
  there = slice_get_read _ _ _ _ refl c.requires.there c.index_mut-seat.ensures.value;
  is = refl;
  change = c.start.ensures.moves;
}
