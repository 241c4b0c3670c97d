-- The routes that the texts of a net name between its charts.
use Rattle.std.specs.Prelude.{◌≡◌, ℕ, List, [], ◌∷◌, Option, Some, None, is_some, not, option_map, option_and_then}
use Rattle.std.specs.Prelude.{slice_get}
use Rattle.std.specs.List.{find}
use Rattle.checked_chart.specs.Chart.{Chart}
use Rattle.net_text.specs.Routes.{HasSameNumbers, Joins, route_of}
use Rattle.net_text.specs.declared.net.RouteText.{RouteText}
use Rattle.net_text.specs.declared.route.Route.{Route}
use Rattle.commands.specs.NetCharts.{LoadedChart}

-- the chart of that number
abbrev pub chart_at : List LoadedChart → ℕ → Option Chart
chart_at loaded n = option_map (λ (c : LoadedChart). c.chart) (slice_get loaded n)

-- the route that a text names between two charts, none where there is no such chart, or where its names aren't of such
-- events and data as the charts have
abbrev pub route_between : RouteText → Option Chart → Option Chart → Option Route
route_between text from to =
    option_and_then (λ (a : Chart). option_and_then (λ (b : Chart). route_of text a.names b.names) to) from

-- the route that a text names in a net
abbrev pub route_in : List LoadedChart → RouteText → Option Route
route_in loaded text = route_between text (chart_at loaded text.from) (chart_at loaded text.to)

-- the route joins the two charts, and has the numbers of the text
pub record IsJoined (text : RouteText) (from to : Option Chart) (route : Route) : Type 0 where
  pub first : Chart
  pub second : Chart
  pub from_is : from ≡ Some first
  pub to_is : to ≡ Some second
  pub joins : Joins first.names second.names route
  pub numbers : HasSameNumbers text route

-- the line of the first text that names no route, if there is one
abbrev pub bad_route : List LoadedChart → List RouteText → Option ℕ
bad_route loaded texts =
    option_map (λ (text : RouteText). text.line) (find (λ (text : RouteText). not
    (is_some (route_in loaded text))) texts)

-- the route, if there is one, before others
abbrev pub before_routes : Option Route → List Route → List Route
before_routes None routes = routes
before_routes (Some route) routes = route ∷ routes

-- the routes that texts name
abbrev pub routes_in : List LoadedChart → List RouteText → List Route
routes_in loaded [] = []
routes_in loaded (text ∷ texts) = before_routes (route_in loaded text) (routes_in loaded texts)
