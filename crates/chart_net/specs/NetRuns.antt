-- Runs of a net over the steps of a schedule, up to the first step that ends the run.
use Rattle.std.specs.Prelude.{◌≡◌, ℕ, Bool, true, false, List, [], ◌∷◌, ◌++◌, length, map, Option, Some, None}
use Rattle.std.specs.Prelude.{slice_get, slice_set}
use Rattle.std.specs.List.{range_with_len}
use Rattle.flow_base.specs.declared.fault.Fault.{Fault}
use Rattle.actions.specs.Names.{Names}
use Rattle.actions.specs.Runs.{EventWithInputs, Moment, ReactsWithInputs}
use Rattle.actions.specs.World.{World}
use Rattle.actions.specs.declared.event.Event.TheVariants.{Named}
use Rattle.actions.specs.declared.expr.Value.{Value}
use Rattle.chart_net.specs.Nets.{Net, Item, RouteState, NetWorld, net_before, replaced}
use Rattle.chart_net.specs.Sending.{sends}
use Rattle.net_text.specs.declared.route.Route.{Route}
use Rattle.event_file.specs.InputValues.{no_inputs}

-- a step: a chart is started or is given an event, or the chart at the end of a route takes an item of it
pub data NetStep : Type 0 where
  Starts : ℕ → NetStep
  Gives : ℕ → EventWithInputs → NetStep
  Takes : ℕ → NetStep

-- What a step did: a chart was started, or was given an event, which left that moment, and then the route of a number
-- was full, or none. Or there was nothing to take from a route.
pub data Outcome : Type 0 where
  Moved : ℕ → Option EventWithInputs → Moment → Option ℕ → Outcome
  WasEmpty : ℕ → Outcome

-- a step, what it did, and the world of the net after it
pub record NetMoment : Type 0 where
  pub step : NetStep
  pub outcome : Outcome
  pub after : NetWorld

-- ---- one step

-- what the start of a chart, which isn't started yet, or an event that a started chart is given may leave
abbrev pub ChartGives : Net → ℕ → Option World → Option EventWithInputs → Moment → Type 0
ChartGives net c None None m = net.starts c m.world m.fault
ChartGives net c None (Some given) m = ⊥
ChartGives net c (Some w) None m = ⊥
ChartGives net c (Some w) (Some given) m = ReactsWithInputs (net.reacts c) w given m.world m.fault

-- the events that a chart took, with one more where it was given one
abbrev pub took_also : List EventWithInputs → Option EventWithInputs → List EventWithInputs
took_also took None = took
took_also took (Some given) = took ++ given ∷ []

-- the net after a chart moved: its world is that of the moment, and what it emitted was sent
abbrev pub after_move : Net → NetWorld → ℕ → Option EventWithInputs → Moment → NetWorld
after_move net before c given m = record {
  charts = replaced before.charts c (record { world = Some m.world; took = took_also (before.charts c).took given });
  routes = (sends net.routes c m.world m.fault before.routes).routes;
}

-- a chart moved at a step, and that came of it
pub record Moves (net : Net) (before : NetWorld) (step : NetStep) (c : ℕ) (given : Option EventWithInputs)
    (next : NetMoment) : Type 0 where
  pub moment : Moment
  pub gives : ChartGives net c (before.charts c).world given moment
  pub is : next ≡ record {
    step = step;
    outcome = Moved c given moment (sends net.routes c moment.world moment.fault before.routes).full;
    after = after_move net before c given moment;
  }

-- the values that an item gives the data of a chart
abbrev pub inputs_of_item : Names → Option ℕ → Item → List (Option Value)
inputs_of_item n None item = no_inputs n
inputs_of_item n (Some v) item = slice_set (no_inputs n) v item

-- the event, with its inputs, that an item of a route gives the chart at its end
abbrev pub event_of_item : Net → Route → Item → EventWithInputs
event_of_item net route item =
    record { event = Named route.event; inputs = inputs_of_item (net.declared route.to) route.target item }

-- the item that comes next on a route: of those that were sent, the first that wasn't taken
abbrev pub next_item : RouteState → Option Item
next_item state = slice_get state.sent (length state.got)

-- a route from which that item was taken
abbrev pub with_taken : RouteState → Item → RouteState
with_taken state item = record { sent = state.sent; got = state.got ++ item ∷ [] }

-- the net after an item was taken from a route, before its chart is given the event
abbrev pub with_got : NetWorld → ℕ → Item → NetWorld
with_got before r item = record {
  charts = before.charts;
  routes = replaced before.routes r (with_taken (before.routes r) item);
}

-- the chart at the end of a route takes that item, if there is one
abbrev pub TakesItem : Net → NetWorld → ℕ → Route → Option Item → NetMoment → Type 0
TakesItem net before r route None next = next ≡ record { step = Takes r; outcome = WasEmpty r; after = before }
TakesItem net before r route (Some item) next =
    Moves net (with_got before r item) (Takes r) route.to (Some (event_of_item net route item)) next

-- the item that comes next on a route is taken; where there is no such route, nothing is
abbrev pub TakesFrom : Net → NetWorld → ℕ → Option Route → NetMoment → Type 0
TakesFrom net before r None next = ⊥
TakesFrom net before r (Some route) next = TakesItem net before r route (next_item (before.routes r)) next

-- What a step does.
abbrev pub Does : Net → NetWorld → NetStep → NetMoment → Type 0
Does net before (Starts c) next = Moves net before (Starts c) c None next
Does net before (Gives c given) next = Moves net before (Gives c given) c (Some given) next
Does net before (Takes r) next = TakesFrom net before r (slice_get net.routes r) next

-- ---- runs

-- the run goes on after a moment of a chart
abbrev pub is_well : Option Fault → Option ℕ → Bool
is_well None None = true
is_well None (Some r) = false
is_well (Some fault) full = false

-- the run goes on: a chart moved without a fault, and no route was full
abbrev pub goes_on : Outcome → Bool
goes_on (Moved c given m full) = is_well m.fault full
goes_on (WasEmpty r) = false

-- where the run goes on, more holds; else no moment comes
abbrev pub UnlessOver : Bool → List NetMoment → Type 0 → Type 0
UnlessOver true moments more = more
UnlessOver false moments more = moments ≡ []

-- the moments after those steps from a world of the net, up to the first that ends the run
abbrev pub NetGoesOn : Net → NetWorld → List NetStep → List NetMoment → Type 0
NetGoesOn net before [] moments = moments ≡ []
NetGoesOn net before (step ∷ steps) moments =
    (next : NetMoment) × (later : List NetMoment) × (moments ≡ next ∷ later)
    × Does net before step next × UnlessOver (goes_on next.outcome) later (NetGoesOn net next.after steps later)

-- the starts of the charts, in order
abbrev pub starts_of : Net → List NetStep
starts_of net = map Starts (range_with_len 0 (length net.names))

-- A run of a net: the charts are started in order, and then come the steps of the schedule.
abbrev pub NetRuns : Net → List NetStep → List NetMoment → Type 0
NetRuns net schedule moments = NetGoesOn net net_before (starts_of net ++ schedule) moments
