use Rattle.std.proofs.Common.{◌≡◌, ℕ, ◌+◌, List, Option, Some, get_or, set, refl, sym, ap, ◌∙◌, subst, arith, rules}
use Rattle.std.specs.Prelude.{slice_get}
use Rattle.std.proofs.lemmas.Option.{slice_get_read, slice_get_within}
use Rattle.actions.specs.Engines.{IsFaultOf, IsInputEvent, Running, Stage, fault_of}
use Rattle.actions.specs.Names.{Names}
use Rattle.actions.specs.Runs.{EventWithInputs}
use Rattle.actions.specs.declared.event.Event.TheVariants.{Named}
use Rattle.trace_text.specs.Pieces.{Puts}
use Rattle.trace_text.specs.Trace.{IsEventOf}
use Rattle.chart_net.specs.Moving.{StepEnds}
use Rattle.chart_net.specs.NetParts.{AreAt, ChartStands, StandsFor, all_running, charts_of, net_shown}
use Rattle.chart_net.specs.NetRuns.{Moves, Takes, WasEmpty, event_of_item, inputs_of_item, with_got}
use Rattle.chart_net.specs.NetTraces.{ByEmpty}
use Rattle.chart_net.specs.Nets.{NetWorld}
use Rattle.chart_net.specs.Routes.{CanTake}
use Rattle.chart_net.specs.Seats.{names_at}
use Rattle.net_text.specs.declared.route.Route.{Route}
use Rattle.chart_net.proofs.MoveLemmas.{charts_moved, ends_before, event_is, move_done, names_there, on_ok, seat_there}
use Rattle.chart_net.proofs.MoveLemmas.{over_moved, sound_moved, stages_moved, unless_memory}
use Rattle.chart_net.proofs.PartLemmas.{along, declared_is, gives_event}
use Rattle.chart_net.proofs.TakeLemmas.{takes_item, takes_nothing, to_within}
use Rattle.chart_net.proofs.net.Net.take_route.Goals as goal

-- the chart at the end of the route is there
pub take_at-end-requires-clause-there : goal.take_at-end-requires-clause-there
take_at-end-requires-clause-there g c =
    let mid = c.item_from.new.self in
    let route : Route = c.index-route.result.now in
    let read : route ≡ get_or c.args.self.now.routes.items c.args.r route = search rules in
    let leads : slice_get mid.routes.items c.args.r ≡ Some route =
    rw c.item_from.ensures.routes (slice_get_read _ _ _ _ refl c.requires.there read) in
    to_within g.G.Engine mid route (c.item_from.ensures.sound.routes c.args.r route leads)

pub take_at-end-requires-clause-running : goal.take_at-end-requires-clause-running
take_at-end-requires-clause-running g c = λ s here.
    let there : slice_get c.args.self.now.seats.items c.index-route.result.now.to ≡ Some s =
    rw c.item_from.ensures.seats at here in
    (c.requires.stages c.index-route.result.now.to s there).0

pub take_at-end-requires-clause-event : goal.take_at-end-requires-clause-event
take_at-end-requires-clause-event g c = λ s here.
    let mid = c.item_from.new.self in
    let route : Route = c.index-route.result.now in
    let read : route ≡ get_or c.args.self.now.routes.items c.args.r route = search rules in
    let leads : slice_get mid.routes.items c.args.r ≡ Some route =
    rw c.item_from.ensures.routes (slice_get_read _ _ _ _ refl c.requires.there read) in
    subst (λ (n : Names). IsInputEvent n route.event) (declared_is g.G.Engine mid route.to s here)
    (c.item_from.ensures.sound.routes c.args.r route leads).joins.event

pub take_at-end-requires-clause-item : goal.take_at-end-requires-clause-item
take_at-end-requires-clause-item g c = λ s here.
    let mid = c.item_from.new.self in
    let route : Route = c.index-route.result.now in
    let read : route ≡ get_or c.args.self.now.routes.items c.args.r route = search rules in
    let leads : slice_get mid.routes.items c.args.r ≡ Some route =
    rw c.item_from.ensures.routes (slice_get_read _ _ _ _ refl c.requires.there read) in
    subst (λ (n : Names). CanTake n route.target c.in-Some.item) (declared_is g.G.Engine mid route.to s here)
    (c.in-Some.ensures.item route leads)

pub take_at-end-requires-clause-index : goal.take_at-end-requires-clause-index
take_at-end-requires-clause-index g c = λ s here.
    let there : slice_get c.args.self.now.seats.items c.index-route.result.now.to ≡ Some s =
    rw c.item_from.ensures.seats at here in
    let h = (c.requires.stages c.index-route.result.now.to s there).1 in
    omega (arith, h, c.requires.few)

pub end_move-requires-clause-sound : goal.end_move-requires-clause-sound
end_move-requires-clause-sound g c =
    let old = c.item_from.new.self in
    let mid = c.take_at-end.new.self in
    let route : Route = c.index-route.result.now in
    let m = c.take_at-end.ensures.moves in
    let given : Option EventWithInputs =
    Some (record {
      event = Named route.event;
      inputs = inputs_of_item (names_at g.G.Engine m.before) route.target
          c.in-Some.item;
    }) in
    let routes : mid.routes.items ≡ old.routes.items = rw c.take_at-end.ensures.routes refl in
    let rings : mid.rings.items ≡ old.rings.items = rw c.take_at-end.ensures.rings refl in
    sound_moved g.G.Engine old mid route.to m.before m.after given c.take_at-end.result m.there m.is m.change routes
    rings c.item_from.ensures.sound

pub end_move-requires-clause-there : goal.end_move-requires-clause-there
end_move-requires-clause-there g c =
    let route : Route = c.index-route.result.now in
    let m = c.take_at-end.ensures.moves in
    let given : Option EventWithInputs =
    Some (record {
      event = Named route.event;
      inputs = inputs_of_item (names_at g.G.Engine m.before) route.target
          c.in-Some.item;
    }) in
    slice_get_within c.take_at-end.new.self.seats.items route.to m.after
    (seat_there g.G.Engine c.item_from.new.self c.take_at-end.new.self route.to m.before m.after given
    c.take_at-end.result m.there m.is m.change)

pub end_move-requires-clause-event : goal.end_move-requires-clause-event
end_move-requires-clause-event g c =
    let old = c.item_from.new.self in
    let route : Route = c.index-route.result.now in
    let read : route ≡ get_or c.args.self.now.routes.items c.args.r route = search rules in
    let leads : slice_get old.routes.items c.args.r ≡ Some route =
    rw c.item_from.ensures.routes (slice_get_read _ _ _ _ refl c.requires.there read) in
    let m = c.take_at-end.ensures.moves in
    let given : Option EventWithInputs =
    Some (record {
      event = Named route.event;
      inputs = inputs_of_item (names_at g.G.Engine m.before) route.target
          c.in-Some.item;
    }) in
    names_there g.G.Engine old c.take_at-end.new.self route.to m.before m.after given c.take_at-end.result m.there m.is
    m.change
    (λ (n : Names). IsEventOf n (Named route.event))
    (event_is (names_at g.G.Engine m.before) (Named route.event)
    (subst (λ (n : Names). IsInputEvent n route.event) (declared_is g.G.Engine old route.to m.before m.there)
    (c.item_from.ensures.sound.routes c.args.r route leads).joins.event))

pub end_move-requires-clause-fault : goal.end_move-requires-clause-fault
end_move-requires-clause-fault g c =
    let route : Route = c.index-route.result.now in
    let m = c.take_at-end.ensures.moves in
    let given : Option EventWithInputs =
    Some (record {
      event = Named route.event;
      inputs = inputs_of_item (names_at g.G.Engine m.before) route.target
          c.in-Some.item;
    }) in
    names_there g.G.Engine c.item_from.new.self c.take_at-end.new.self route.to m.before m.after given
    c.take_at-end.result m.there m.is m.change
    (λ (n : Names). IsFaultOf n (fault_of c.take_at-end.result)) m.change.fault

-- nothing was there to take
pub returns-in-None-clause-done : goal.returns-in-None-clause-done
returns-in-None-clause-done g c = λ now stands.
    let members = g.G.Engine in
    let old = c.args.self.now in
    let new = c.item_from.new.self in
    let route : Route = c.index-route.result.now in
    let read : route ≡ get_or old.routes.items c.args.r route = search rules in
    let leads : slice_get old.routes.items c.args.r ≡ Some route = slice_get_read _ _ _ _ refl c.requires.there read in
    let took = c.in-None.ensures.taken now.routes stands.waiting in
    unless_memory c.put_empty.new.pieces.failed (c.args.p + 1) (Some (ByEmpty c.args.r)) c.put_empty.result _ _
    c.put_empty.ensures.answer (record {
      next = record { step = Takes c.args.r; outcome = WasEmpty c.args.r; after = now };
      does = takes_nothing (net_shown members old) now c.args.r route leads took.0;
      stands_now = record {
        charts = λ k s here. stands.charts k s (rw c.item_from.ensures.seats at here);
        waiting = took.1;
      };
      put = c.put_empty.ensures.put;
      answer = c.put_empty.ensures.answer;
    })

-- the item was given to the chart at the end of the route
pub returns-in-Some-clause-done : goal.returns-in-Some-clause-done
returns-in-Some-clause-done g c = λ now stands.
    let members = g.G.Engine in
    let first = c.args.self.now in
    let old = c.item_from.new.self in
    let mid = c.take_at-end.new.self in
    let new = c.end_move.new.self in
    let route : Route = c.index-route.result.now in
    let item = c.in-Some.item in
    let read : route ≡ get_or first.routes.items c.args.r route = search rules in
    let leads : slice_get old.routes.items c.args.r ≡ Some route =
    rw c.item_from.ensures.routes (slice_get_read _ _ _ _ refl c.requires.there read) in
    let m = c.take_at-end.ensures.moves in
    let event : EventWithInputs =
    record { event = Named route.event; inputs = inputs_of_item (names_at members m.before) route.target item } in
    let is : Some event ≡ Some (event_of_item (net_shown members old) route item) =
    ap (λ (n : Names). Some (record { event = Named route.event; inputs = inputs_of_item n route.target item }))
    (sym (declared_is members old route.to m.before m.there)) in
    let took = c.in-Some.ensures.taken now.routes stands.waiting in
    let taken : NetWorld = with_got now c.args.r item in
    let seats : new.seats.items ≡ set old.seats.items route.to m.after = rw c.end_move.ensures.seats m.is in
    let routes : mid.routes.items ≡ old.routes.items = rw c.take_at-end.ensures.routes refl in
    let there : slice_get first.seats.items route.to ≡ Some m.before = rw c.item_from.ensures.seats at m.there in
    let running : members.stage m.before.engine ≡ Running = (c.requires.stages route.to m.before there).0 in
    let s = subst (λ (z : Stage). ChartStands z (members.world m.before.engine) m.before.index (now.charts route.to))
    running
    (stands.charts route.to m.before there) in
    let puts = λ (text : List ℕ). Puts (g.O.Sink.wrote c.args.out.now) (g.O.Sink.wrote c.end_move.new.out)
    (g.O.Sink.faults c.args.out.now)
    (g.O.Sink.faults c.end_move.new.out) c.args.pieces.now c.end_move.new.pieces text in
    let same_seats : first.seats.items ≡ old.seats.items = rw c.item_from.ensures.seats refl in
    let same_routes : first.routes.items ≡ old.routes.items = rw c.item_from.ensures.routes refl in
    along members old first (λ net. StepEnds net now (Takes c.args.r) (c.args.p + 1) (StandsFor members new) puts
    c.end_move.new.pieces.failed c.end_move.result)
    (rw c.item_from.ensures.seats refl) same_routes
    (move_done members old new route.to m.before m.after (Some event) now taken (Takes c.args.r) (c.args.p + 1) puts
    c.end_move.new.pieces.failed
    c.end_move.result m.there seats (λ k x here. stands.charts k x (rw c.item_from.ensures.seats at here)) s.1
    (λ next moves. takes_item (net_shown members old) now c.args.r route item next leads took.0
    (subst (λ (given : Option EventWithInputs). Moves (net_shown members old) taken (Takes c.args.r) route.to given
    next) is moves))
    c.take_at-end.result (Named route.event) refl m.change
    (λ fault h. gives_event members old route.to m.before m.there (now.charts route.to).world event
    (members.world m.after.engine) fault s.0 h)
    (ends_before members old mid route.to m.before m.after (Some event) c.take_at-end.result m.there m.is m.change
    new.rings.items (c.args.p + 1)
    (Named route.event) puts c.end_move.new.pieces.failed c.end_move.result routes c.end_move.ensures.ends taken.routes
    (rw c.take_at-end.ensures.rings took.1)))

pub returns-in-Some-clause-charts : goal.returns-in-Some-clause-charts
returns-in-Some-clause-charts g c =
    let old = c.item_from.new.self in
    let route : Route = c.index-route.result.now in
    let m = c.take_at-end.ensures.moves in
    let given : Option EventWithInputs =
    Some (record {
      event = Named route.event;
      inputs = inputs_of_item (names_at g.G.Engine m.before) route.target
          c.in-Some.item;
    }) in
    let seats : c.end_move.new.self.seats.items ≡ set old.seats.items route.to m.after =
    rw c.end_move.ensures.seats m.is in
    let same : charts_of g.G.Engine old ≡ charts_of g.G.Engine c.args.self.now = rw c.item_from.ensures.seats refl in
    charts_moved g.G.Engine old c.end_move.new.self route.to m.before m.after given c.take_at-end.result m.there seats
    m.change ∙ same

pub returns-in-Some-clause-stages : goal.returns-in-Some-clause-stages
returns-in-Some-clause-stages g c =
    let old = c.item_from.new.self in
    let route : Route = c.index-route.result.now in
    let m = c.take_at-end.ensures.moves in
    let given : Option EventWithInputs =
    Some (record {
      event = Named route.event;
      inputs = inputs_of_item (names_at g.G.Engine m.before) route.target
          c.in-Some.item;
    }) in
    let seats : c.end_move.new.self.seats.items ≡ set old.seats.items route.to m.after =
    rw c.end_move.ensures.seats m.is in
    let there : slice_get c.args.self.now.seats.items route.to ≡ Some m.before =
    rw c.item_from.ensures.seats at m.there in
    let before = (c.requires.stages route.to m.before there).1 in
    on_ok (AreAt g.G.Engine c.end_move.new.self all_running (c.args.p + 1)) c.end_move.result (λ well.
    stages_moved g.G.Engine old c.end_move.new.self route.to m.before m.after given c.take_at-end.result m.there seats
    m.change
    all_running all_running c.args.p (c.args.p + 1) (c.end_move.ensures.ok well) (λ k other. refl) refl (omega arith)
    (omega (arith, before))
    (λ k s here. c.requires.stages k s (rw c.item_from.ensures.seats at here)))

pub returns-in-Some-clause-over : goal.returns-in-Some-clause-over
returns-in-Some-clause-over g c =
    let old = c.item_from.new.self in
    let route : Route = c.index-route.result.now in
    let m = c.take_at-end.ensures.moves in
    let given : Option EventWithInputs =
    Some (record {
      event = Named route.event;
      inputs = inputs_of_item (names_at g.G.Engine m.before) route.target
          c.in-Some.item;
    }) in
    let seats : c.end_move.new.self.seats.items ≡ set old.seats.items route.to m.after =
    rw c.end_move.ensures.seats m.is in
    over_moved g.G.Engine old c.end_move.new.self route.to m.before m.after given c.take_at-end.result m.there seats
    m.change c.end_move.result c.end_move.ensures.memory
