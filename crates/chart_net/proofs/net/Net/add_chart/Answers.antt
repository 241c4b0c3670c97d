use Rattle.std.proofs.Common.{refl, subst}
use Rattle.actions.specs.Names.{Names}
use Rattle.event_file.specs.LineValues.{IsMadeFor}
use Rattle.chart_net.specs.declared.net.Net.{Net}
use Rattle.chart_net.specs.declared.seat.Seat.{Seat}
use Rattle.chart_net.proofs.NetLemmas.{chart_added, net_kept}
use Rattle.chart_net.proofs.net.Net.add_chart.Goals as goal

-- the charts stay where there is no room for one more
pub returns-in_err-push-clause-net : goal.returns-in_err-push-clause-net
returns-in_err-push-clause-net g c =
    let new : Net g.row.G.Denot =
    record {
      seats = c.push.new.self;
      routes = c.args.self.now.routes;
      rings = c.args.self.now.rings;
      alloc =
          c.args.self.now.alloc;
    } in
    net_kept g.G.Engine c.args.self.now new c.in_err-push.ensures.items refl refl c.requires.net

pub returns-clause-net : goal.returns-clause-net
returns-clause-net g c =
    let new : Net g.row.G.Denot =
    record {
      seats = c.push.new.self;
      routes = c.args.self.now.routes;
      rings = c.args.self.now.rings;
      alloc =
          c.args.self.now.alloc;
    } in
    let seat : Seat g.row.G.Denot =
    record { name = c.args.name; engine = c.args.engine; vals = c.in_ok-vals.vals; index = 0 } in
    chart_added g.G.Engine c.args.self.now new seat c.in_ok-push.ensures.items refl refl
    (record {
      few_events = c.requires.few_events;
      few_data = c.requires.few_data;
      vals = subst (λ (n : Names). IsMadeFor n c.in_ok-vals.vals) c.view.ensures.shown.names c.in_ok-vals.ensures.made;
    })
    c.requires.fresh refl c.requires.few c.requires.net
