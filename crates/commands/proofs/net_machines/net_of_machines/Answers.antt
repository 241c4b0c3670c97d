use Rattle.std.proofs.Common.{◌≡◌, ◌∙◌, List, None, take, drop, suc, is_some, sym, ap, subst, length, arith}
use lib.ListN.{length-take}
use Rattle.commands.specs.NetCharts.{chart_numbered, loaded_in}
use Rattle.commands.specs.NetMachines.{IsMachineNet}
use Rattle.commands.specs.NetRoutes.{IsJoined, bad_route, route_between, routes_in}
use Rattle.commands.proofs.NetChartLemmas.{cut_at, take_more}
use Rattle.commands.proofs.NetJoinLemmas.{joined_route, route_added, text_at}
use Rattle.commands.proofs.NetMachineLemmas.{few_routes, good_at}
use Rattle.commands.proofs.NetRouteLemmas.{same_route}
use Rattle.net_text.specs.NetTexts.{IsRouteWithin, net_text_of}
use Rattle.net_text.specs.declared.net.NetChart.{NetChart}
use Rattle.net_text.specs.declared.net.RouteText.{RouteText}
use Rattle.commands.proofs.net_machines.net_of_machines.Goals as goal

-- each text names a route
pub unreachable-requires : goal.unreachable-requires
unreachable-requires c =
    let net = net_text_of c.args.net.now in
    let loaded = loaded_in c.args.files.now net.charts in
    let text = c.text-item.result in
    let at = text_at c.items-text-items.result.now net.routes c.texts.text-index text c.items-text-items.ensures
    c.texts-test.true c.text-item.is in
    let parts = cut_at net.routes c.texts.text-index text at.0 at.1 in
    let good = good_at loaded (take c.texts.text-index net.routes) text (drop (suc c.texts.text-index) net.routes)
    (subst (λ (texts : List RouteText). bad_route loaded texts ≡ None) parts c.requires.good) in
    let is : c.route_named.result ≡ route_between text (chart_numbered net.charts c.args.files.now text.from)
    (chart_numbered net.charts c.args.files.now text.to) =
    c.route_named.ensures.route
    ∙ ap (λ (charts : List NetChart). route_between text (chart_numbered charts c.args.files.now text.from)
    (chart_numbered charts c.args.files.now text.to)) c.items-charts.ensures in
    let bad = sym good ∙ ap is_some (sym (is ∙ same_route net.charts c.args.files.now c.requires.read text)
    ∙ c.in_default.is) in
    absurd cc

-- there is room for one route more
pub add_route-requires-clause-few : goal.add_route-requires-clause-few
add_route-requires-clause-few c =
    let net = net_text_of c.args.net.now in
    let loaded = loaded_in c.args.files.now net.charts in
    let at = text_at c.items-text-items.result.now net.routes c.texts.text-index c.text-item.result
    c.items-text-items.ensures c.texts-test.true c.text-item.is in
    let few = few_routes loaded (take c.texts.text-index net.routes) in
    omega (
      arith,
      ap length c.texts.invariant.routes_are,
      few,
      length-take c.texts.text-index net.routes,
      at.0,
      c.requires.within.few_routes,
    )

-- the net may have the route
pub add_route-requires-clause-route : goal.add_route-requires-clause-route
add_route-requires-clause-route c =
    let net = net_text_of c.args.net.now in
    let loaded = loaded_in c.args.files.now net.charts in
    let text = c.text-item.result in
    let at = text_at c.items-text-items.result.now net.routes c.texts.text-index text c.items-text-items.ensures
    c.texts-test.true c.text-item.is in
    joined_route c.args.bounds net.charts c.args.files.now c.requires.read
    (routes_in loaded (take c.texts.text-index net.routes))
    c.texts.machines c.texts.invariant text c.in-Some.route
    (subst (λ (charts : List NetChart). IsJoined text (chart_numbered charts c.args.files.now text.from)
    (chart_numbered charts c.args.files.now text.to) c.in-Some.route)
    c.items-charts.ensures c.in-Some.ensures.joins)
    (subst (IsRouteWithin (length net.charts)) (sym at.1)
    (c.requires.within.routes c.texts.text-index text at.0))

-- the route of this text was added too
pub texts-preserved : goal.texts-preserved
texts-preserved c =
    let net = net_text_of c.args.net.now in
    let loaded = loaded_in c.args.files.now net.charts in
    let text = c.text-item.result in
    let at = text_at c.items-text-items.result.now net.routes c.texts.text-index text c.items-text-items.ensures
    c.texts-test.true c.text-item.is in
    let ahead = take c.texts.text-index net.routes in
    let is =
    c.in-Some.ensures.route
    ∙ ap (λ (charts : List NetChart). route_between text (chart_numbered charts c.args.files.now text.from)
    (chart_numbered charts c.args.files.now text.to)) c.items-charts.ensures
    ∙ same_route net.charts c.args.files.now c.requires.read text in
    subst (λ (texts : List RouteText). IsMachineNet c.args.bounds loaded (routes_in loaded texts) c.add_route.new.self)
    (sym (take_more net.routes c.texts.text-index text at.0 at.1))
    (route_added c.args.bounds loaded ahead text c.in-Some.route c.texts.machines c.add_route.new.self
    c.texts.invariant (sym is)
    c.in_ok-add_route.ensures.net c.in_ok-add_route.ensures.charts c.in_ok-add_route.ensures.ok)
