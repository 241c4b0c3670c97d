use Rattle.std.proofs.Common.{◌≡◌, ◌<◌, List, length, get_or, Some, IfSome, refl, sym, ap, ◌∙◌, subst, rules}
use Rattle.std.specs.Prelude.{slice_get}
use Rattle.std.specs.Vec.{with_items}
use Rattle.std.proofs.lemmas.List.{with_items_is, places}
use Rattle.std.proofs.lemmas.Option.{slice_get_read}
use Rattle.actions.specs.Data.{Datum}
use Rattle.chart_net.specs.Holding.{HaveRoom, Sent}
use Rattle.chart_net.specs.NetParts.{net_shown}
use Rattle.chart_net.specs.Nets.{Item}
use Rattle.chart_net.specs.Rings.{Queue}
use Rattle.chart_net.specs.Routes.{CanTake}
use Rattle.chart_net.specs.Sending.{sends}
use Rattle.chart_net.specs.declared.net.Net.{Net}
use Rattle.net_text.specs.declared.route.Route.{Route}
use Rattle.chart_net.specs.declared.seat.Seat.{Seat}
use Rattle.chart_net.proofs.PartLemmas.{sound_with}
use Rattle.chart_net.proofs.SourceLemmas.{all_after_sending, none_of, sent_from, sent_taken, sources_there}
use Rattle.chart_net.proofs.net.Net.send_from.Goals as goal

-- the data that are sent are there
pub send_events-requires-clause-sources : goal.send_events-requires-clause-sources
send_events-requires-clause-sources g c = λ r route at from.
    let members = g.G.Engine in
    let net = c.args.self.now in
    let seat : Seat g.row.G.Denot = c.index.result.now in
    let read : seat ≡ get_or net.seats.items c.args.c seat = search rules in
    let there : slice_get net.seats.items c.args.c ≡ Some seat = slice_get_read _ _ _ _ refl c.requires.there read in
    let sources = sources_there members net c.args.c seat (members.tree (members.program seat.engine))
    (members.world seat.engine)
    c.requires.sound there c.view-view.ensures.fits in
    subst (λ (vals : List Datum). IfSome route.source (λ v. v < length vals)) (sym c.view-view.ensures.shown.vals)
    (sources r route (sym (ap (λ (l : List Route). slice_get l r) c.deref.ensures.value) ∙ at) from)

pub returns-clause-sent : goal.returns-clause-sent
returns-clause-sent g c = λ s s_there states wait.
    let members = g.G.Engine in
    let net = c.args.self.now in
    let seat : Seat g.row.G.Denot = c.index.result.now in
    let read : seat ≡ get_or net.seats.items c.args.c seat = search rules in
    let there : slice_get net.seats.items c.args.c ≡ Some seat = slice_get_read _ _ _ _ refl c.requires.there read in
    let same : seat ≡ s = cc in
    let is : (with_items net.rings c.send_events.new.rings).items ≡ c.send_events.new.rings =
    with_items_is net.rings c.send_events.new.rings (search (rules, places)) in
    subst (λ (l : List Queue). Sent (sends net.routes.items c.args.c (members.world s.engine) c.args.fault states) l
    c.send_events.result) (sym is)
    (subst (λ (x : Seat g.row.G.Denot). Sent
    (sends net.routes.items c.args.c (members.world x.engine) c.args.fault states) c.send_events.new.rings
    c.send_events.result) same
    (sent_from net.routes.items c.deref.result.now net.rings.items c.deref_mut.result.now c.args.c
    (members.world seat.engine) c.view-view.result.vals.now
    c.view-view.result.outputs.now c.args.fault c.send_events.result c.send_events.new.rings c.deref.ensures.value
    c.deref_mut.ensures.value
    c.view-view.ensures.shown.vals c.view-view.ensures.shown.outputs
    (none_of c.args.fault (sym c.is_some.ensures ∙ c.if-is_some.false))
    c.send_events.ensures.sent states wait))

pub returns-clause-sound : goal.returns-clause-sound
returns-clause-sound g c =
    let members = g.G.Engine in
    let net = c.args.self.now in
    let new : Net g.row.G.Denot =
    record {
      seats = net.seats;
      routes = net.routes;
      rings = with_items net.rings c.send_events.new.rings;
      alloc =
          net.alloc;
    } in
    let seat : Seat g.row.G.Denot = c.index.result.now in
    let read : seat ≡ get_or net.seats.items c.args.c seat = search rules in
    let there : slice_get net.seats.items c.args.c ≡ Some seat = slice_get_read _ _ _ _ refl c.requires.there read in
    let w = members.world seat.engine in
    let is : (with_items net.rings c.send_events.new.rings).items ≡ c.send_events.new.rings =
    with_items_is net.rings c.send_events.new.rings (search (rules, places)) in
    sound_with members net new refl refl c.requires.sound.seats
    (subst (λ (q : List Queue). HaveRoom net.routes.items q) (sym is)
    (subst (λ (l : List Route). HaveRoom l c.send_events.new.rings) c.deref.ensures.value
    c.send_events.ensures.room))
    (λ r route ring here ring_here. all_after_sending
    (λ (route : Route) (item : Item). CanTake ((net_shown members net).declared route.to) route.target item)
    net.routes.items
    net.rings.items c.send_events.new.rings c.args.c w c.args.fault c.send_events.result
    (sent_from net.routes.items c.deref.result.now net.rings.items c.deref_mut.result.now c.args.c w
    c.view-view.result.vals.now
    c.view-view.result.outputs.now c.args.fault c.send_events.result c.send_events.new.rings c.deref.ensures.value
    c.deref_mut.ensures.value
    c.view-view.ensures.shown.vals c.view-view.ensures.shown.outputs
    (none_of c.args.fault (sym c.is_some.ensures ∙ c.if-is_some.false))
    c.send_events.ensures.sent)
    c.requires.sound.items
    (sent_taken members net c.args.c seat (members.tree (members.program seat.engine)) w c.requires.sound there
    c.view-view.ensures.fits)
    r route ring here (sym (ap (λ (l : List Queue). slice_get l r) is) ∙ ring_here))
    c.requires.sound
