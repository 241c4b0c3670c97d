-- What a chart sends is there, and can be taken.
use Rattle.std.proofs.Common.{◌≡◌, ℕ, ◌<◌, nat_eq, Bool, true, false, ◌&&◌, List, [], ◌∷◌, ◌++◌, length, Option, Some}
use Rattle.std.proofs.Common.{None, IfSome, is_some, if◌then◌else◌, refl, sym, ap, ◌∙◌, subst}
use Rattle.std.specs.Prelude.{slice_get}
use Rattle.std.specs.List.{AllByRecursion}
use Rattle.std.specs.Option.{option_map}
use Rattle.std.proofs.lemmas.Bool.{eqb-true}
use Rattle.flow_base.specs.declared.fault.Fault.{Fault}
use Rattle.active_config.specs.Tree.{Tree}
use Rattle.actions.proofs.DataLemmas.{datum_has_sort}
use Rattle.actions.proofs.InputLemmas.{declared_there}
use Rattle.actions.proofs.StoredLemmas.{IsValueOf-value_at}
use Rattle.actions.specs.Data.{Datum, IsValueOf, datum, value_of_datum}
use Rattle.actions.specs.Names.{Names}
use Rattle.actions.specs.World.{World, Fits}
use Rattle.actions.specs.declared.engine.Engine.{Ghosts as Engine}
use Rattle.actions.specs.declared.names.Sort.{Sort}
use Rattle.chart_net.specs.Holding.{HaveSources, Sent, Wait}
use Rattle.chart_net.specs.Nets.{Item, RouteState}
use Rattle.chart_net.specs.NetParts.{PartsFit, net_shown}
use Rattle.chart_net.specs.Rings.{Queue, later, oldest}
use Rattle.chart_net.specs.Routes.{CanTake}
use Rattle.net_text.specs.Routes.{DataJoined}
use Rattle.chart_net.specs.Seats.{names_at}
use Rattle.chart_net.specs.Sending.{carries, item_of, items_for, items_for_all, items_given, send_events, sends}
use Rattle.chart_net.specs.declared.net.Net.{Net as Parts}
use Rattle.net_text.specs.declared.route.Route.{Route}
use Rattle.chart_net.specs.declared.seat.Seat.{Seat}
use Rattle.chart_net.proofs.PartLemmas.{declared_is}
use Rattle.chart_net.proofs.SendLemmas.{sends_adds}

-- ---- what holds of each of a list

pub all_join : {A : Type 0} (P : A → Type 0) (xs ys : List A) → AllByRecursion P xs → AllByRecursion P ys
    → AllByRecursion P (xs ++ ys)
all_join P [] ys all more = more
all_join P (x ∷ xs) ys all more = (all.0, all_join P xs ys all.1 more)

pub all_front : {A : Type 0} (P : A → Type 0) (xs ys : List A) → AllByRecursion P (xs ++ ys) → AllByRecursion P xs
all_front P [] ys all = tt
all_front P (x ∷ xs) ys all = (all.0, all_front P xs ys all.1)

-- so of all but the oldest
pub all_later : (P : Item → Type 0) (items : List Item) → AllByRecursion P items → AllByRecursion P (later items)
all_later P [] all = tt
all_later P (item ∷ items) all = all.1

-- so of the oldest, if there is one
pub oldest_has : (P : Item → Type 0) (items : List Item) (result : Option Item) → result ≡ oldest items
    → AllByRecursion P items → IfSome result P
oldest_has P [] result is all = subst (λ (o : Option Item). IfSome o P) (sym is) tt
oldest_has P (item ∷ items) result is all = subst (λ (o : Option Item). IfSome o P) (sym is) all.0

-- ---- the data of a route

-- the datum that is sent is there
source_within : (from to : Names) (source target : Option ℕ) (t : Tree) (w : World) → DataJoined from to source target
    → Fits t from w
    → IfSome source (λ v. v < length w.vals)
source_within from to None None t w joins fits = tt
source_within from to None (Some x) t w joins fits = absurd joins
source_within from to (Some v) None t w joins fits = absurd joins
source_within from to (Some v) (Some x) t w joins fits = (declared_there t from w v joins.source fits joins.sent).within

-- its value can be taken
item_taken : (from to : Names) (source target : Option ℕ) (t : Tree) (w : World) → DataJoined from to source target
    → Fits t from w
    → CanTake to target (option_map (λ v. value_of_datum (datum w.vals v)) source)
item_taken from to None None t w joins fits = tt
item_taken from to None (Some x) t w joins fits = absurd joins
item_taken from to (Some v) None t w joins fits = absurd joins
item_taken from to (Some v) (Some x) t w joins fits =
    let there = declared_there t from w v joins.source fits joins.sent in
    let d = datum w.vals v in (
      joins.target,
      joins.given,
      joins.input,
      subst (λ (s : Sort). IsValueOf s (value_of_datum d))
          (there.sort_is ∙ joins.sorts)
          (IsValueOf-value_at d.sort d.mantissa (datum_has_sort w.vals v fits.sorts there.within)),
    )

module _ {G : Type 0} (members : Engine G) (net : Parts G) (c : ℕ) (seat : Seat G) (t : Tree) (w : World)
    (sound : PartsFit members net)
    (there : slice_get net.seats.items c ≡ Some seat) (fits : Fits t (names_at members seat) w) where
  -- what a route from the chart joins
  joins : (r : ℕ) (route : Route) → slice_get net.routes.items r ≡ Some route → route.from ≡ c
      → DataJoined (names_at members seat) ((net_shown members net).declared route.to) route.source route.target
  joins r route at from =
      subst (λ (n : Names). DataJoined n ((net_shown members net).declared route.to) route.source route.target)
      (ap (net_shown members net).declared from ∙ declared_is members net c seat there)
      (sound.routes r route at).joins.pair

  -- The data that the routes of a chart send are there.
  pub sources_there : HaveSources c net.routes.items w.vals
  sources_there r route at from =
      source_within (names_at members seat) ((net_shown members net).declared route.to) route.source route.target t w
      (joins r route at from) fits

  -- What they send can be taken.
  pub sent_taken : (r : ℕ) (route : Route) → slice_get net.routes.items r ≡ Some route → route.from ≡ c
      → CanTake ((net_shown members net).declared route.to) route.target (item_of route w.vals)
  sent_taken r route at from =
      item_taken (names_at members seat) ((net_shown members net).declared route.to) route.source route.target t w
      (joins r route at from) fits

-- ---- what waits

-- a route carries events of its own chart alone
carries_from : (route : Route) (c event : ℕ) → carries route c event ≡ true → route.from ≡ c
carries_from route c event is = eqb-true route.from c (left (nat_eq route.from c) (nat_eq route.emit event) is)
  where
    left : (a b : Bool) → (a && b) ≡ true → a ≡ true
    left true b is = refl
    left false b is = absurd cc

module _ (P : Item → Type 0) (route : Route) (c : ℕ) (vals : List Datum) (ok : route.from ≡ c → P (item_of route vals))
  where
    items_for_ok : (event : ℕ) → AllByRecursion P (items_for (Some route) c vals event)
    items_for_ok event = by (carries route c event) refl
      where
        by : (b : Bool) → carries route c event ≡ b → AllByRecursion P (if b then item_of route vals ∷ [] else [])
        by true is = (ok (carries_from route c event is), tt)
        by false is = tt

    items_for_all_ok : (events : List ℕ) → AllByRecursion P (items_for_all (Some route) c vals events)
    items_for_all_ok [] = tt
    items_for_all_ok (event ∷ events) =
        all_join P (items_for (Some route) c vals event) (items_for_all (Some route) c vals events) (items_for_ok event)
        (items_for_all_ok events)

-- what holds of what a chart sends holds of all that a moment gives a route
items_given_ok : (P : Item → Type 0) (route : Route) (c : ℕ) (w : World) (fault : Option Fault)
    → (route.from ≡ c → P (item_of route w.vals))
    → AllByRecursion P (items_given (Some route) c w fault)
items_given_ok P route c w None ok = items_for_all_ok P route c w.vals ok w.outputs
items_given_ok P route c w (Some fault) ok = tt

-- the items of a ring that is there
abbrev items_at : Option Queue → List Item
items_at None = []
items_at (Some ring) = ring.items

-- What holds of all that waited, and of what a chart sends, holds of all that waits after sending.
pub all_after_sending : (P : Route → Item → Type 0) (routes : List Route) (rings rings' : List Queue) (c : ℕ)
    (w : World) (fault : Option Fault) (full : Option ℕ)
    → ((states : ℕ → RouteState) → Wait rings states → Sent (sends routes c w fault states) rings' full)
    → ((r : ℕ) (route : Route) (ring : Queue) → slice_get routes r ≡ Some route → slice_get rings r ≡ Some ring
    → AllByRecursion (P route) ring.items)
    → ((r : ℕ) (route : Route) → slice_get routes r ≡ Some route → route.from ≡ c → P route (item_of route w.vals))
    → (r : ℕ) (route : Route) (ring : Queue) → slice_get routes r ≡ Some route → slice_get rings' r ≡ Some ring
    → AllByRecursion (P route) ring.items
all_after_sending P routes rings rings' c w fault full sent waited ok r route ring there ring_there =
    let states : ℕ → RouteState = λ k. record { sent = items_at (slice_get rings k); got = [] } in
    let s = sent states (λ k q at. ap items_at at) in
    let adds = sends_adds routes r c w fault states in
    let got_is : ((sends routes c w fault states).routes r).got ≡ [] = ap (λ (z : RouteState). z.got) adds.is in
    let sent_is : ((sends routes c w fault states).routes r).sent ≡ items_at (slice_get rings r) ++ adds.added =
    ap (λ (z : RouteState). z.sent) adds.is in
    let now : ring.items ≡ items_at (slice_get rings r) ++ adds.added =
    sym (s.waiting r ring ring_there ∙ ap (λ (g : List Item). g ++ ring.items) got_is) ∙ sent_is in
    let more : AllByRecursion (P route) (adds.added ++ adds.unsent) =
    subst (AllByRecursion (P route)) adds.parts
    (subst (λ (o : Option Route). AllByRecursion (P route) (items_given o c w fault)) (sym there)
    (items_given_ok (P route) route c w fault (ok r route there))) in
    subst (AllByRecursion (P route)) (sym now)
    (all_join (P route) (items_at (slice_get rings r)) adds.added (old (slice_get rings r) refl)
    (all_front (P route) adds.added adds.unsent more))
  where
    old : (o : Option Queue) → slice_get rings r ≡ o → AllByRecursion (P route) (items_at o)
    old None is = tt
    old (Some q) is = waited r route q there is

-- what was sent for a view of a world was sent for the world
pub sent_from : (routes routes' : List Route) (rings rings' : List Queue) (c : ℕ) (w : World) (vals : List Datum)
    (outputs : List ℕ) (fault : Option Fault)
    (full : Option ℕ) (after : List Queue) → routes' ≡ routes → rings' ≡ rings → vals ≡ w.vals → outputs ≡ w.outputs
    → fault ≡ None
    → ((states : ℕ → RouteState) → Wait rings' states → Sent (send_events routes' c vals outputs states) after full)
    → (states : ℕ → RouteState) → Wait rings states → Sent (sends routes c w fault states) after full
sent_from routes routes' rings rings' c w vals outputs fault full after same_routes same_rings same_vals same_outputs
    none sent states wait =
    let h = sent states (subst (λ (l : List Queue). Wait l states) (sym same_rings) wait) in
    subst (λ (f : Option Fault). Sent (sends routes c w f states) after full) (sym none)
    (subst (λ (o : List ℕ). Sent (send_events routes c w.vals o states) after full) same_outputs
    (subst (λ (v : List Datum). Sent (send_events routes c v outputs states) after full) same_vals
    (subst (λ (rs : List Route). Sent (send_events rs c vals outputs states) after full) same_routes h)))

-- there is none where there is not some
pub none_of : {A : Type 0} (o : Option A) → is_some o ≡ false → o ≡ None
none_of None is = refl
none_of (Some x) is = absurd cc
