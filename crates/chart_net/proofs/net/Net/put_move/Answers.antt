use Rattle.std.proofs.Common.{◌≡◌, Some, refl, ap, ◌∙◌, subst}
use Rattle.std.specs.Prelude.{slice_get}
use Rattle.std.proofs.lemmas.Option.{slice_get_read}
use Rattle.trace_text.specs.Pieces.{Puts}
use Rattle.chart_net.specs.Moving.{answer_after, seat_line}
use Rattle.chart_net.specs.NetTraces.{why_moved}
use Rattle.chart_net.specs.declared.seat.Seat.{Seat}
use Rattle.chart_net.proofs.net.Net.put_move.Goals as goal

pub put_line-requires-clause-seat : goal.put_line-requires-clause-seat
put_line-requires-clause-seat g c =
    c.requires.seat _ (slice_get_read _ _ _ _ refl c.requires.there c.index-seat.ensures)

pub put_line-requires-clause-event : goal.put_line-requires-clause-event
put_line-requires-clause-event g c =
    c.requires.event _ (slice_get_read _ _ _ _ refl c.requires.there c.index-seat.ensures)

pub put_line-requires-clause-fault : goal.put_line-requires-clause-fault
put_line-requires-clause-fault g c =
    c.requires.fault _ (slice_get_read _ _ _ _ refl c.requires.there c.index-seat.ensures)

-- the line is that of the chart at that place
pub returns-clause-put : goal.returns-clause-put
returns-clause-put g c = λ s there.
    let seat : Seat g.row.G.Denot = c.index-seat.result.now in
    let read : slice_get c.args.self.now.seats.items c.args.c ≡ Some seat =
    slice_get_read _ _ _ _ refl c.requires.there c.index-seat.ensures in
    let same : seat ≡ s = cc in
    subst (λ (x : Seat g.row.G.Denot). Puts (g.O.Sink.wrote c.args.out.now) (g.O.Sink.wrote c.put_line.new.out)
    (g.O.Sink.faults c.args.out.now) (g.O.Sink.faults c.put_line.new.out) c.args.pieces.now c.put_line.new.pieces
    (seat_line g.G.Engine c.args.p x c.args.event c.args.fault c.args.full)) same c.put_line.ensures

pub returns-clause-answer : goal.returns-clause-answer
returns-clause-answer g c =
    c.answer_of.ensures
    ∙ ap (λ failed. answer_after failed c.args.p (why_moved c.args.c c.args.fault c.args.full)) c.has_failed.ensures
