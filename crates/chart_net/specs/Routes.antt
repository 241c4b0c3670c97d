-- Which routes a net may have, and which items a chart can take.
use Rattle.std.specs.Prelude.{ℕ, ◌<◌, ◌≤◌, length, Option, Some, None}
use Rattle.actions.specs.Engines.{IsInputValue}
use Rattle.actions.specs.Names.{Names}
use Rattle.net_text.specs.Routes.{Joins}
use Rattle.net_text.specs.declared.limits.TheConstants.{CAP_LIMIT}
use Rattle.chart_net.specs.Nets.{Net, Item}
use Rattle.net_text.specs.declared.route.Route.{Route}

-- The route leads between charts of the net, joins them, and holds a number of items that a route may hold.
pub record IsRoute (net : Net) (route : Route) : Type 0 where
  pub from : route.from < length net.names
  pub to : route.to < length net.names
  pub joins : Joins (net.declared route.from) (net.declared route.to) route
  pub some : 0 < route.cap
  pub few : route.cap ≤ CAP_LIMIT

-- a chart can be given what is in the item for that datum, if there is a datum and the item has a value
abbrev pub CanTake : Names → Option ℕ → Item → Type 0
CanTake n None item = Unit {0}
CanTake n (Some v) None = Unit {0}
CanTake n (Some v) (Some value) = IsInputValue n v value
