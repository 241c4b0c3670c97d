use Rattle.std.proofs.Common.{refl}
use Rattle.std.proofs.lemmas.Option.{slice_get_read}
use Rattle.std.specs.Vec.{with_item}
use Rattle.chart_net.specs.declared.net.Net.{Net}
use Rattle.chart_net.proofs.ScheduleLemmas.{chart_read, seat_read, values_kept}
use Rattle.chart_net.proofs.net.Net.read_given.Goals as goal

pub read-requires : goal.read-requires
read-requires g c =
    c.requires.sound.seats c.args.c _ (slice_get_read _ _ _ _ refl c.requires.there c.index_mut-seat.ensures.value)

pub returns-clause-read : goal.returns-clause-read
returns-clause-read g c =
    let old = c.args.self.now in
    let new : Net g.row.G.Denot =
    record {
      seats = with_item old.seats c.args.c c.read.new.self;
      routes = old.routes;
      rings = old.rings;
      alloc =
          old.alloc;
    } in
    chart_read g.G.Engine old new c.args.c c.index_mut-seat.result.now c.read.new.self c.args.text.now c.read.result
    (slice_get_read _ _ _ _ refl c.requires.there c.index_mut-seat.ensures.value) refl c.read.ensures.others.1
    c.read.ensures.answer
    c.read.ensures.vals c.read.ensures.given

pub returns-clause-kept : goal.returns-clause-kept
returns-clause-kept g c =
    let old = c.args.self.now in
    let new : Net g.row.G.Denot =
    record {
      seats = with_item old.seats c.args.c c.read.new.self;
      routes = old.routes;
      rings = old.rings;
      alloc =
          old.alloc;
    } in
    let there = slice_get_read _ _ _ _ refl c.requires.there c.index_mut-seat.ensures.value in
    values_kept g.G.Engine old new c.args.c c.index_mut-seat.result.now c.read.new.self there refl refl refl
    c.read.ensures.others.0 c.read.ensures.others.1 c.read.ensures.others.2
    (seat_read g.G.Engine c.index_mut-seat.result.now c.read.new.self c.read.ensures.others.1 c.read.ensures.made
    (c.requires.sound.seats c.args.c _ there))
