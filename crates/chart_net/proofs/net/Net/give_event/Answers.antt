use Rattle.std.proofs.Common.{◌≡◌, ℕ, ◌+◌, List, Option, Some, set, refl, subst, arith}
use Rattle.actions.specs.Engines.{IsFaultOf, Running, Stage, fault_of}
use Rattle.actions.specs.Names.{Names}
use Rattle.actions.specs.Runs.{EventWithInputs}
use Rattle.trace_text.specs.Pieces.{Puts}
use Rattle.trace_text.specs.Trace.{IsEventOf}
use Rattle.chart_net.specs.Moving.{StepEnds}
use Rattle.chart_net.specs.NetParts.{AreAt, ChartStands, StandsFor, all_running, net_shown}
use Rattle.chart_net.specs.NetRuns.{Gives}
use Rattle.chart_net.specs.Seats.{names_at}
use Rattle.chart_net.specs.declared.seat.Seat.{Seat}
use Rattle.chart_net.proofs.MoveLemmas.{charts_moved, ends_before, event_is, move_done, names_there, on_ok, sound_moved}
use Rattle.chart_net.proofs.MoveLemmas.{over_moved, stages_moved}
use Rattle.chart_net.proofs.PartLemmas.{gives_event}
use Rattle.chart_net.proofs.net.Net.give_event.Goals as goal

pub give_at-end-requires-clause-seat : goal.give_at-end-requires-clause-seat
give_at-end-requires-clause-seat g c = c.requires.sound.seats c.args.c

pub give_at-end-requires-clause-index : goal.give_at-end-requires-clause-index
give_at-end-requires-clause-index g c = λ s there. let h =
    (c.requires.stages c.args.c s there).1 in omega (arith, h, c.requires.few)

pub end_move-requires-clause-sound : goal.end_move-requires-clause-sound
end_move-requires-clause-sound g c =
    let m = c.give_at-end.ensures.moves in
    let given : Option EventWithInputs = Some (record { event = c.args.event; inputs = m.before.vals.values }) in
    let routes : c.give_at-end.new.self.routes.items ≡ c.args.self.now.routes.items =
    rw c.give_at-end.ensures.routes refl in
    let rings : c.give_at-end.new.self.rings.items ≡ c.args.self.now.rings.items =
    rw c.give_at-end.ensures.rings refl in
    sound_moved g.G.Engine c.args.self.now c.give_at-end.new.self c.args.c m.before m.after given c.give_at-end.result
    m.there m.is m.change
    routes rings c.requires.sound

pub end_move-requires-clause-event : goal.end_move-requires-clause-event
end_move-requires-clause-event g c =
    let m = c.give_at-end.ensures.moves in
    let given : Option EventWithInputs = Some (record { event = c.args.event; inputs = m.before.vals.values }) in
    names_there g.G.Engine c.args.self.now c.give_at-end.new.self c.args.c m.before m.after given c.give_at-end.result
    m.there m.is m.change
    (λ (n : Names). IsEventOf n c.args.event)
    (event_is (names_at g.G.Engine m.before) c.args.event (c.requires.given m.before m.there).event)

pub end_move-requires-clause-fault : goal.end_move-requires-clause-fault
end_move-requires-clause-fault g c =
    let m = c.give_at-end.ensures.moves in
    let given : Option EventWithInputs = Some (record { event = c.args.event; inputs = m.before.vals.values }) in
    names_there g.G.Engine c.args.self.now c.give_at-end.new.self c.args.c m.before m.after given c.give_at-end.result
    m.there m.is m.change
    (λ (n : Names). IsFaultOf n (fault_of c.give_at-end.result)) m.change.fault

pub returns-clause-done : goal.returns-clause-done
returns-clause-done g c = λ seat seat_there now stands.
    let members = g.G.Engine in
    let old = c.args.self.now in
    let mid = c.give_at-end.new.self in
    let new = c.end_move.new.self in
    let m = c.give_at-end.ensures.moves in
    let event : EventWithInputs = record { event = c.args.event; inputs = m.before.vals.values } in
    let seats : new.seats.items ≡ set old.seats.items c.args.c m.after = rw c.end_move.ensures.seats m.is in
    let routes : mid.routes.items ≡ old.routes.items = rw c.give_at-end.ensures.routes refl in
    let running : members.stage m.before.engine ≡ Running = (c.requires.stages c.args.c m.before m.there).0 in
    let s = subst (λ (z : Stage). ChartStands z (members.world m.before.engine) m.before.index (now.charts c.args.c))
    running
    (stands.charts c.args.c m.before m.there) in
    let puts = λ (text : List ℕ). Puts (g.O.Sink.wrote c.args.out.now) (g.O.Sink.wrote c.end_move.new.out)
    (g.O.Sink.faults c.args.out.now)
    (g.O.Sink.faults c.end_move.new.out) c.args.pieces.now c.end_move.new.pieces text in
    let same : m.before ≡ seat = let e = m.there in let e' = seat_there in cc in
    subst (λ (x : Seat g.row.G.Denot). StepEnds (net_shown members old) now
    (Gives c.args.c (record { event = c.args.event; inputs = x.vals.values }))
    (c.args.p + 1) (StandsFor members new) puts c.end_move.new.pieces.failed c.end_move.result) same
    (move_done members old new c.args.c m.before m.after (Some event) now now (Gives c.args.c event) (c.args.p + 1)
    puts c.end_move.new.pieces.failed
    c.end_move.result m.there seats stands.charts s.1 (λ next moves. moves) c.give_at-end.result c.args.event refl
    m.change
    (λ fault h. gives_event members old c.args.c m.before m.there (now.charts c.args.c).world event
    (members.world m.after.engine) fault s.0 h)
    (ends_before members old mid c.args.c m.before m.after (Some event) c.give_at-end.result m.there m.is m.change
    new.rings.items (c.args.p + 1)
    c.args.event puts c.end_move.new.pieces.failed c.end_move.result routes c.end_move.ensures.ends now.routes
    (rw c.give_at-end.ensures.rings stands.waiting)))

pub returns-clause-charts : goal.returns-clause-charts
returns-clause-charts g c =
    let m = c.give_at-end.ensures.moves in
    let given : Option EventWithInputs = Some (record { event = c.args.event; inputs = m.before.vals.values }) in
    let seats : c.end_move.new.self.seats.items ≡ set c.args.self.now.seats.items c.args.c m.after =
    rw c.end_move.ensures.seats m.is in
    charts_moved g.G.Engine c.args.self.now c.end_move.new.self c.args.c m.before m.after given c.give_at-end.result
    m.there seats m.change

pub returns-clause-stages : goal.returns-clause-stages
returns-clause-stages g c =
    let m = c.give_at-end.ensures.moves in
    let given : Option EventWithInputs = Some (record { event = c.args.event; inputs = m.before.vals.values }) in
    let seats : c.end_move.new.self.seats.items ≡ set c.args.self.now.seats.items c.args.c m.after =
    rw c.end_move.ensures.seats m.is in
    let before = (c.requires.stages c.args.c m.before m.there).1 in
    on_ok (AreAt g.G.Engine c.end_move.new.self all_running (c.args.p + 1)) c.end_move.result (λ well.
    stages_moved g.G.Engine c.args.self.now c.end_move.new.self c.args.c m.before m.after given c.give_at-end.result
    m.there seats m.change
    all_running all_running c.args.p (c.args.p + 1) (c.end_move.ensures.ok well) (λ k other. refl) refl (omega arith)
    (omega (arith, before))
    c.requires.stages)

pub returns-clause-over : goal.returns-clause-over
returns-clause-over g c =
    let m = c.give_at-end.ensures.moves in
    let given : Option EventWithInputs = Some (record { event = c.args.event; inputs = m.before.vals.values }) in
    let seats : c.end_move.new.self.seats.items ≡ set c.args.self.now.seats.items c.args.c m.after =
    rw c.end_move.ensures.seats m.is in
    over_moved g.G.Engine c.args.self.now c.end_move.new.self c.args.c m.before m.after given c.give_at-end.result
    m.there seats m.change c.end_move.result c.end_move.ensures.memory
