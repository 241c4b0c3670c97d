-- An item of a route is taken, and given to the chart at its end.
use Rattle.std.proofs.Common.{◌≡◌, ◌≢◌, ℕ, zero, suc, ◌+◌, ◌<◌, length, set, replicate, Option, Some, None, refl, sym}
use Rattle.std.proofs.Common.{subst, arith}
use Rattle.std.specs.Prelude.{slice_get}
use Rattle.std.proofs.lemmas.List.{length-map}
use Rattle.std.proofs.lemmas.Option.{slice_get_within}
use Rattle.actions.specs.Engines.{IsInputSet}
use Rattle.actions.specs.Names.{Names}
use Rattle.actions.specs.Runs.{AreSet}
use Rattle.actions.specs.World.{World}
use Rattle.actions.specs.declared.engine.Engine.{Ghosts as Engine}
use Rattle.actions.specs.declared.expr.Value.{Value}
use Rattle.chart_net.specs.Nets.{Net, ChartOf, Item, NetWorld}
use Rattle.chart_net.specs.NetParts.{CanTakeAll, PartsFit, charts_of, net_shown}
use Rattle.chart_net.specs.NetRuns.{Does, Moves, NetMoment, Takes, TakesFrom, TakesItem, WasEmpty, event_of_item}
use Rattle.chart_net.specs.NetRuns.{inputs_of_item, next_item, with_got}
use Rattle.chart_net.specs.Rings.{Queue, later}
use Rattle.chart_net.specs.Routes.{CanTake, IsRoute}
use Rattle.chart_net.specs.Seats.{chart_of}
use Rattle.chart_net.specs.declared.net.Net.{Net as Parts}
use Rattle.net_text.specs.declared.route.Route.{Route}
use Rattle.chart_net.proofs.PartLemmas.{at_changed}
use Rattle.chart_net.proofs.SourceLemmas.{all_later}

-- ---- the inputs of an item

-- no value sets nothing
pub none_set : (k n : ℕ) (w : World) → AreSet k (replicate n None) w w
none_set k zero w = refl
none_set k (suc n) w = none_set (k + 1) n w

-- no value sets nothing, wherever it stands
pub nothing_set : (k n v : ℕ) (w : World) → AreSet k (set (replicate n None) v None) w w
nothing_set k zero v w = refl
nothing_set k (suc n) zero w = none_set (k + 1) n w
nothing_set k (suc n) (suc v) w = nothing_set (k + 1) n v w

-- one value sets one datum
pub one_set : (k n v : ℕ) (value : Value) (w w' : World) → v < n → IsInputSet w (k + v) value w'
    → AreSet k (set (replicate n None) v (Some value)) w w'
one_set k zero v value w w' within is = absurd (omega arith)
one_set k (suc n) zero value w w' within is =
    (w', subst (λ d. IsInputSet w d value w') (omega arith) is, none_set (k + 1) n w')
one_set k (suc n) (suc v) value w w' within is =
    one_set (k + 1) n v value w w' (omega arith) (subst (λ d. IsInputSet w d value w') (omega arith) is)

-- the value of an item is set in its datum
pub item_set : (n : Names) (target : Option ℕ) (item : Item) (v : ℕ) (value : Value) (w w' : World) → target ≡ Some v
    → item ≡ Some value
    → CanTake n target item → IsInputSet w v value w' → AreSet 0 (inputs_of_item n target item) w w'
item_set n None item v value w w' t i can set = absurd cc
item_set n (Some x) None v value w w' t i can set = absurd cc
item_set n (Some x) (Some y) v value w w' t i can set =
    let datum : v ≡ x = cc in
    let same : value ≡ y = cc in
    let place : v ≡ 0 + x = omega (arith, datum) in
    one_set 0 (length n.vars) x y w w' (slice_get_within n.vars x can.0 can.1)
    (subst (λ z. IsInputSet w (0 + x) z w') same (subst (λ d. IsInputSet w d value w') place set))

-- no value is set where there is no datum
pub no_target : (n : Names) (target : Option ℕ) (item : Item) (w : World) → ((v : ℕ) → target ≢ Some v)
    → AreSet 0 (inputs_of_item n target item) w w
no_target n None item w not = none_set 0 (length n.vars) w
no_target n (Some v) item w not = absurd (not v refl)

-- nor where the item has none
pub no_value : (n : Names) (target : Option ℕ) (item : Item) (w : World) → ((value : Value) → item ≢ Some value)
    → AreSet 0 (inputs_of_item n target item) w w
no_value n None item w not = none_set 0 (length n.vars) w
no_value n (Some v) None w not = nothing_set 0 (length n.vars) v w
no_value n (Some v) (Some value) w not = absurd (not value refl)

-- ---- the step

-- taking an item is what the step does
pub takes_item : (net : Net) (first : NetWorld) (r : ℕ) (route : Route) (item : Item) (next : NetMoment)
    → slice_get net.routes r ≡ Some route
    → next_item (first.routes r) ≡ Some item
    → Moves net (with_got first r item) (Takes r) route.to (Some (event_of_item net route item)) next
    → Does net first (Takes r) next
takes_item net first r route item next there is moves =
    subst (λ (o : Option Route). TakesFrom net first r o next) (sym there)
    (subst (λ (i : Option Item). TakesItem net first r route i next) (sym is) moves)

-- finding nothing is
pub takes_nothing : (net : Net) (first : NetWorld) (r : ℕ) (route : Route) → slice_get net.routes r ≡ Some route
    → next_item (first.routes r) ≡ None → Does net first (Takes r)
    (record { step = Takes r; outcome = WasEmpty r; after = first })
takes_nothing net first r route there is =
    let next : NetMoment = record { step = Takes r; outcome = WasEmpty r; after = first } in
    subst (λ (o : Option Route). TakesFrom net first r o next) (sym there)
    (subst (λ (i : Option Item). TakesItem net first r route i next) (sym is) refl)

-- a chart can be given all that waits on the route of that number
abbrev TakesAll : {G : Type 0} → (members : Engine G) → Parts G → ℕ → Queue → Type 0
TakesAll members net n q = (route : Route) → slice_get net.routes.items n ≡ Some route
    → CanTakeAll (net_shown members net) route q

-- what waits can be taken after the oldest item was
pub all_after_taking : {G : Type 0} (members : Engine G) (net : Parts G) (r : ℕ) (ring after : Queue)
    → PartsFit members net
    → slice_get net.rings.items r ≡ Some ring → after ≡ record { items = later ring.items; cap = ring.cap }
    → (k : ℕ) (route : Route) (other : Queue) → slice_get net.routes.items k ≡ Some route
    → slice_get (set net.rings.items r after) k ≡ Some other
    → CanTakeAll (net_shown members net) route other
all_after_taking members net r ring after sound there is k route other route_there other_there =
    at_changed (TakesAll members net) (TakesAll members net) net.rings.items r ring after there
    (λ n q at route at'. sound.items n route q at' at) (λ n q ne h. h)
    (λ route at'. subst (CanTakeAll (net_shown members net) route) (sym is)
    (all_later (CanTake ((net_shown members net).declared route.to) route.target) ring.items
    (sound.items r route ring at' there)))
    k other other_there route route_there

-- a chart to which a route leads is there
pub to_within : {G : Type 0} (members : Engine G) (net : Parts G) (route : Route) → IsRoute (net_shown members net)
    route
    → route.to < length net.seats.items
to_within members net route is =
    let names : length (net_shown members net).names ≡ length (charts_of members net) =
    length-map (charts_of members net) (λ (chart : ChartOf members.Program). chart.name) in
    let charts : length (charts_of members net) ≡ length net.seats.items =
    length-map net.seats.items (chart_of members) in
    omega (arith, is.to, names, charts)
