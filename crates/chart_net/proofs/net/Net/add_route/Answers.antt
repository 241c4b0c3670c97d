use Rattle.std.proofs.Common.{List, [], ◌∷◌, ◌++◌, refl, ap, ◌∙◌}
use Rattle.chart_net.specs.declared.net.Net.{Net}
use Rattle.net_text.specs.declared.route.Route.{Route}
use Rattle.chart_net.proofs.NetLemmas.{net_kept, route_added}
use Rattle.chart_net.proofs.net.Net.add_route.Goals as goal

-- the routes stay where there is no room for one more
pub returns-in_err-reserve-clause-net : goal.returns-in_err-reserve-clause-net
returns-in_err-reserve-clause-net g c =
    let new : Net g.row.G.Denot =
    record {
      seats = c.args.self.now.seats;
      routes = c.reserve.new.self;
      rings = c.args.self.now.rings;
      alloc =
          c.args.self.now.alloc;
    } in
    net_kept g.G.Engine c.args.self.now new refl c.reserve.ensures.items refl c.requires.net

-- and so do the rings
pub returns-in_err-push-clause-net : goal.returns-in_err-push-clause-net
returns-in_err-push-clause-net g c =
    let new : Net g.row.G.Denot =
    record {
      seats = c.args.self.now.seats;
      routes = c.reserve.new.self;
      rings = c.push.new.self;
      alloc =
          c.args.self.now.alloc;
    } in
    net_kept g.G.Engine c.args.self.now new refl c.reserve.ensures.items c.in_err-push.ensures.items c.requires.net

pub returns-clause-net : goal.returns-clause-net
returns-clause-net g c =
    let new : Net g.row.G.Denot =
    record {
      seats = c.args.self.now.seats;
      routes = c.push_reserved.new.self;
      rings = c.push.new.self;
      alloc =
          c.args.self.now.alloc;
    } in
    route_added g.G.Engine c.args.self.now new c.args.route c.in_ok-ring.ring refl
    (c.push_reserved.ensures.items ∙ ap (λ (l : List Route). l ++ c.args.route ∷ []) c.reserve.ensures.items)
    c.in_ok-push.ensures.items
    c.in_ok-ring.ensures c.requires.route c.requires.few c.requires.net
