-- What a net text says.
use Rattle.std.specs.Prelude.{◌≡◌, ℕ, ◌<◌, ◌≤◌, List, [], ◌∷◌, ◌++◌, length, map, Option, Some, None, All}
use Rattle.std.specs.Prelude.{if◌then◌else◌}
use Rattle.std.specs.List.{list_any}
use Rattle.std.specs.Str.{bytes_eq}
use Rattle.flow_base.specs.Lists.{items_of}
use Rattle.net_text.specs.declared.net.NetChart.{NetChart}
use Rattle.net_text.specs.declared.net.RouteText.{RouteText}
use Rattle.net_text.specs.declared.net.NetText as declared
use Rattle.net_text.specs.declared.limits.TheConstants.{CHART_LIMIT, ROUTE_LIMIT, CAP_LIMIT}

-- charts and routes, each in the order of their numbers
pub record NetText : Type 0 where
  pub charts : List NetChart
  pub routes : List RouteText

-- what was read
abbrev pub net_text_of : declared.NetText → NetText
net_text_of net = record { charts = items_of net.charts; routes = items_of net.routes }

-- the names of the charts
abbrev pub names_of : List NetChart → List (List ℕ)
names_of charts = map (λ (chart : NetChart). chart.name) charts

-- the place of the first name that an earlier one has too, where those of the first list stand before the others
abbrev pub first_repeat : List (List ℕ) → List (List ℕ) → Option ℕ
first_repeat before [] = None
first_repeat before (name ∷ names) =
    if list_any (bytes_eq name) before then Some (length before) else first_repeat (before ++ name ∷ []) names

-- a route leads from one of so many charts to one of them, and may hold at most so many items, 1 to 1,024
pub record IsRouteWithin (charts : ℕ) (route : RouteText) : Type 0 where
  pub from : route.from < charts
  pub to : route.to < charts
  pub some : 1 ≤ route.cap
  pub few : route.cap ≤ CAP_LIMIT

-- there are 1 to 16 charts with names of their own, and at most 64 routes between them
pub record IsNetText (net : NetText) : Type 0 where
  pub some : 1 ≤ length net.charts
  pub few : length net.charts ≤ CHART_LIMIT
  pub named : first_repeat [] (names_of net.charts) ≡ None
  pub few_routes : length net.routes ≤ ROUTE_LIMIT
  pub routes : All (IsRouteWithin (length net.charts)) net.routes
