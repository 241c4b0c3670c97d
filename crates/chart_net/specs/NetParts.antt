-- A net as the code keeps it: what it shows, how its parts fit each other, and which worlds of the net it stands for.
use Rattle.std.specs.Prelude.{◌≡◌, ℕ, ◌≤◌, nat_lt, List, [], map, length, Some, None, if◌then◌else◌, slice_get}
use Rattle.std.specs.List.{AllByRecursion}
use Rattle.actions.specs.Engines.{Stage, Fresh, Running, Over}
use Rattle.actions.specs.World.{World}
use Rattle.actions.specs.declared.engine.Engine.{Ghosts as Engine}
use Rattle.chart_net.specs.Changes.{At}
use Rattle.chart_net.specs.Holding.{HaveRoom, Wait}
use Rattle.chart_net.specs.Nets.{Net, ChartOf, ChartState, NetWorld, net_of}
use Rattle.chart_net.specs.Rings.{Queue}
use Rattle.chart_net.specs.Routes.{CanTake, IsRoute}
use Rattle.chart_net.specs.Seats.{IsSeat, chart_of}
use Rattle.chart_net.specs.declared.net.Net.{Net as Parts}
use Rattle.chart_net.specs.declared.seat.Seat.{Seat}
use Rattle.net_text.specs.declared.limits.TheConstants.{CHART_LIMIT, ROUTE_LIMIT}
use Rattle.net_text.specs.declared.route.Route.{Route}

-- its charts, in order
abbrev pub charts_of : {G : Type 0} → (members : Engine G) → Parts G → List (ChartOf members.Program)
charts_of members net = map (chart_of members) net.seats.items

-- its routes, in order
abbrev pub routes_of : {G : Type 0} → Parts G → List Route
routes_of net = net.routes.items

-- the net of its charts and routes
abbrev pub net_shown : {G : Type 0} → (members : Engine G) → Parts G → Net
net_shown members net = net_of members (charts_of members net) (routes_of net)

-- a chart can be given each item that waits on the route to it
abbrev pub CanTakeAll : Net → Route → Queue → Type 0
CanTakeAll net route ring = AllByRecursion (CanTake (net.declared route.to) route.target) ring.items

-- The parts of a net fit each other: there are not too many, each chart has what its steps need, each route is one
-- that the net may have, and has a ring whose items its chart can take.
pub record PartsFit {G : Type 0} (members : Engine G) (net : Parts G) : Type 0 where
  pub charts_few : length net.seats.items ≤ CHART_LIMIT
  pub routes_few : length net.routes.items ≤ ROUTE_LIMIT
  pub seats : (c : ℕ) → At net.seats.items c (IsSeat members)
  pub routes : (r : ℕ) → At net.routes.items r (IsRoute (net_shown members net))
  pub room : HaveRoom net.routes.items net.rings.items
  pub items : (r : ℕ) (route : Route) (ring : Queue) → slice_get net.routes.items r ≡ Some route
      → slice_get net.rings.items r ≡ Some ring → CanTakeAll (net_shown members net) route ring

-- each chart is at the stage that its number has, and took at most p events
abbrev pub AreAt : {G : Type 0} → (members : Engine G) → Parts G → (ℕ → Stage) → ℕ → Type 0
AreAt members net stages p =
    (c : ℕ) → At net.seats.items c (λ seat. (members.stage seat.engine ≡ stages c) × (seat.index ≤ p))

-- the charts below a number are between two events, and the others before their start
abbrev pub started_below : ℕ → ℕ → Stage
started_below n c = if nat_lt c n then Running else Fresh

-- all charts are before their start
abbrev pub all_fresh : ℕ → Stage
all_fresh c = Fresh

-- all charts are between two events
abbrev pub all_running : ℕ → Stage
all_running c = Running

-- the engine of a chart is at the end of its run
pub record HasOver {G : Type 0} (members : Engine G) (net : Parts G) : Type 0 where
  pub number : ℕ
  pub seat : Seat G
  pub there : slice_get net.seats.items number ≡ Some seat
  pub over : members.stage seat.engine ≡ Over

-- A net that isn't driven yet: its parts fit each other, no chart is started, and nothing was sent.
pub record IsNet {G : Type 0} (members : Engine G) (net : Parts G) : Type 0 where
  pub sound : PartsFit members net
  pub fresh : AreAt members net all_fresh 0
  pub empty : (r : ℕ) → At net.rings.items r (λ ring. ring.items ≡ [])

-- ---- the worlds of a net

-- a chart at that stage, with that world, which took so many events, stands for that state; at the end of its run it
-- stands for any
abbrev pub ChartStands : Stage → World → ℕ → ChartState → Type 0
ChartStands Fresh w index state = (state.world ≡ None) × (length state.took ≡ index)
ChartStands Running w index state = (state.world ≡ Some w) × (length state.took ≡ index)
ChartStands Over w index state = Unit {0}

-- The net stands for that world of the net: each chart for its state, and the rings for what waits on the routes.
pub record StandsFor {G : Type 0} (members : Engine G) (net : Parts G) (now : NetWorld) : Type 0 where
  pub charts : (c : ℕ)
      → At net.seats.items c (λ seat. ChartStands (members.stage seat.engine) (members.world seat.engine) seat.index
      (now.charts c))
  pub waiting : Wait net.rings.items now.routes

-- What is said of a net is kept: its charts and routes, that its parts fit each other, its stages, and the worlds
-- that it stands for.
pub record NetIsKept {G : Type 0} (members : Engine G) (old new : Parts G) : Type 0 where
  pub charts : charts_of members new ≡ charts_of members old
  pub routes : routes_of new ≡ routes_of old
  pub sound : PartsFit members old → PartsFit members new
  pub stages : (stages : ℕ → Stage) (p : ℕ) → AreAt members old stages p → AreAt members new stages p
  pub stands : (now : NetWorld) → StandsFor members old now → StandsFor members new now
