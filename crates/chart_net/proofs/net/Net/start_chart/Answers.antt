use Rattle.std.proofs.Common.{◌≡◌, ℕ, ◌+◌, List, None, set, refl, ◌∙◌, subst, arith}
use Rattle.actions.specs.Engines.{Fresh, IsFaultOf, Stage, fault_of}
use Rattle.actions.specs.Names.{Names}
use Rattle.actions.specs.declared.event.Event.TheVariants.{Start}
use Rattle.trace_text.specs.Pieces.{Puts}
use Rattle.chart_net.specs.NetParts.{AreAt, ChartStands, started_below}
use Rattle.chart_net.specs.NetRuns.{Starts}
use Rattle.chart_net.proofs.MoveLemmas.{charts_moved, ends_before, move_done, names_there, not_started, on_ok}
use Rattle.chart_net.proofs.MoveLemmas.{over_moved, sound_moved, stages_moved, started_here, started_others}
use Rattle.chart_net.proofs.PartLemmas.{gives_start}
use Rattle.chart_net.proofs.net.Net.start_chart.Goals as goal

pub start_at-end-requires-clause-fresh : goal.start_at-end-requires-clause-fresh
start_at-end-requires-clause-fresh g c = λ s there. (c.requires.stages c.args.c s there).0 ∙ not_started c.args.c

pub end_move-requires-clause-sound : goal.end_move-requires-clause-sound
end_move-requires-clause-sound g c =
    let m = c.start_at-end.ensures.moves in
    let routes : c.start_at-end.new.self.routes.items ≡ c.args.self.now.routes.items =
    rw c.start_at-end.ensures.routes refl in
    let rings : c.start_at-end.new.self.rings.items ≡ c.args.self.now.rings.items =
    rw c.start_at-end.ensures.rings refl in
    sound_moved g.G.Engine c.args.self.now c.start_at-end.new.self c.args.c m.before m.after None c.start_at-end.result
    m.there m.is m.change
    routes rings c.requires.sound

pub end_move-requires-clause-fault : goal.end_move-requires-clause-fault
end_move-requires-clause-fault g c =
    let m = c.start_at-end.ensures.moves in
    names_there g.G.Engine c.args.self.now c.start_at-end.new.self c.args.c m.before m.after None c.start_at-end.result
    m.there m.is m.change
    (λ (n : Names). IsFaultOf n (fault_of c.start_at-end.result)) m.change.fault

pub returns-clause-done : goal.returns-clause-done
returns-clause-done g c = λ now stands.
    let members = g.G.Engine in
    let old = c.args.self.now in
    let mid = c.start_at-end.new.self in
    let new = c.end_move.new.self in
    let m = c.start_at-end.ensures.moves in
    let seats : new.seats.items ≡ set old.seats.items c.args.c m.after = rw c.end_move.ensures.seats m.is in
    let routes : mid.routes.items ≡ old.routes.items = rw c.start_at-end.ensures.routes refl in
    let fresh : members.stage m.before.engine ≡ Fresh = (c.requires.stages c.args.c m.before m.there).0 ∙ not_started
    c.args.c in
    let s = subst (λ (z : Stage). ChartStands z (members.world m.before.engine) m.before.index (now.charts c.args.c))
    fresh
    (stands.charts c.args.c m.before m.there) in
    let puts = λ (text : List ℕ). Puts (g.O.Sink.wrote c.args.out.now) (g.O.Sink.wrote c.end_move.new.out)
    (g.O.Sink.faults c.args.out.now)
    (g.O.Sink.faults c.end_move.new.out) c.args.pieces.now c.end_move.new.pieces text in
    move_done members old new c.args.c m.before m.after None now now (Starts c.args.c) 0 puts
    c.end_move.new.pieces.failed c.end_move.result
    m.there seats stands.charts s.1 (λ next moves. moves) c.start_at-end.result Start refl m.change
    (λ fault h. gives_start members old c.args.c m.before m.there (now.charts c.args.c).world
    (members.world m.after.engine) fault s.0 h)
    (ends_before members old mid c.args.c m.before m.after None c.start_at-end.result m.there m.is m.change
    new.rings.items 0 Start puts
    c.end_move.new.pieces.failed c.end_move.result routes c.end_move.ensures.ends now.routes
    (rw c.start_at-end.ensures.rings stands.waiting))

pub returns-clause-charts : goal.returns-clause-charts
returns-clause-charts g c =
    let m = c.start_at-end.ensures.moves in
    let seats : c.end_move.new.self.seats.items ≡ set c.args.self.now.seats.items c.args.c m.after =
    rw c.end_move.ensures.seats m.is in
    charts_moved g.G.Engine c.args.self.now c.end_move.new.self c.args.c m.before m.after None c.start_at-end.result
    m.there seats m.change

pub returns-clause-stages : goal.returns-clause-stages
returns-clause-stages g c =
    let m = c.start_at-end.ensures.moves in
    let seats : c.end_move.new.self.seats.items ≡ set c.args.self.now.seats.items c.args.c m.after =
    rw c.end_move.ensures.seats m.is in
    on_ok (AreAt g.G.Engine c.end_move.new.self (started_below (c.args.c + 1)) 0) c.end_move.result (λ well.
    stages_moved g.G.Engine c.args.self.now c.end_move.new.self c.args.c m.before m.after None c.start_at-end.result
    m.there seats m.change
    (started_below c.args.c) (started_below (c.args.c + 1)) 0 0 (c.end_move.ensures.ok well) (started_others c.args.c)
    (started_here c.args.c)
    (omega arith) (c.requires.stages c.args.c m.before m.there).1 c.requires.stages)

pub returns-clause-over : goal.returns-clause-over
returns-clause-over g c =
    let m = c.start_at-end.ensures.moves in
    let seats : c.end_move.new.self.seats.items ≡ set c.args.self.now.seats.items c.args.c m.after =
    rw c.end_move.ensures.seats m.is in
    over_moved g.G.Engine c.args.self.now c.end_move.new.self c.args.c m.before m.after None c.start_at-end.result
    m.there seats m.change c.end_move.result c.end_move.ensures.memory
