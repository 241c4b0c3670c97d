-- The parts of a net, where one of its charts moves.
use Rattle.std.proofs.Common.{◌≡◌, ◌≢◌, ℕ, zero, suc, ◌<◌, ◌≤◌, nat_eq, Bool, true, false, List, [], ◌∷◌, length, map}
use Rattle.std.proofs.Common.{set, Option, Some, None, refl, sym, ap, ◌∙◌, subst, arith}
use Rattle.std.specs.Prelude.{slice_get, slice_index_or}
use Rattle.std.specs.Option.{option_map_or}
use Rattle.std.proofs.lemmas.Bool.{eqb-true, eq-eqb}
use Rattle.std.proofs.lemmas.List.{length-map}
use Rattle.std.proofs.lemmas.Option.{get_or_from_slice_get, slice_get_within}
use Rattle.flow_base.specs.declared.fault.Fault.{Fault}
use Rattle.active_config.specs.Tree.{tree_of}
use Rattle.actions.specs.Names.{Names}
use Rattle.actions.specs.Runs.{EventWithInputs, Moment, ReactsWithInputs}
use Rattle.actions.specs.World.{World}
use Rattle.actions.specs.declared.engine.Engine.{Ghosts as Engine}
use Rattle.chart_net.specs.Changes.{At}
use Rattle.chart_net.specs.Holding.{HaveRoom}
use Rattle.chart_net.specs.Nets.{Net, ChartOf, net_of, replaced, start_of, reaction_of}
use Rattle.chart_net.specs.NetParts.{CanTakeAll, PartsFit, charts_of, net_shown, routes_of}
use Rattle.chart_net.specs.NetRuns.{ChartGives}
use Rattle.chart_net.specs.Rings.{Queue}
use Rattle.chart_net.specs.Routes.{IsRoute}
use Rattle.net_text.specs.Routes.{Joins}
use Rattle.chart_net.specs.Seats.{IsSeat, SeatGives, chart_of, names_at}
use Rattle.chart_net.specs.declared.net.Net.{Net as Parts}
use Rattle.net_text.specs.declared.limits.TheConstants.{CAP_LIMIT}
use Rattle.net_text.specs.declared.route.Route.{Route}
use Rattle.chart_net.specs.declared.seat.Seat.{Seat}
use Rattle.chart_net.proofs.HoldLemmas.{read_same, read_other}

-- ---- lists

-- what stands in a list of which each element is mapped
pub get_mapped : {A B : Type 0} (f : A → B) (xs : List A) (i : ℕ) (x : A) → slice_get xs i ≡ Some x
    → slice_get (map f xs) i ≡ Some (f x)
get_mapped f [] i x e = absurd cc
get_mapped f (y ∷ ys) zero x e = cc
get_mapped f (y ∷ ys) (suc i) x e = get_mapped f ys i x e

-- nothing is mapped to anything else where one element is replaced by one like it
pub mapped_same : {A B : Type 0} (f : A → B) (xs : List A) (i : ℕ) (x y : A) → slice_get xs i ≡ Some x → f y ≡ f x
    → map f (set xs i y) ≡ map f xs
mapped_same f [] i x y e same = absurd cc
mapped_same f (z ∷ zs) zero x y e same = let first : z ≡ x = cc in ap (λ b. b ∷ map f zs) (same ∙ ap f (sym first))
mapped_same f (z ∷ zs) (suc i) x y e same = ap (λ bs. f z ∷ bs) (mapped_same f zs i x y e same)

-- what holds of each of a list holds after one is replaced: the others keep it, and the new one has it
pub at_changed : {S : Type 0} (P Q : ℕ → S → Type 0) (xs : List S) (c : ℕ) (x y : S) → slice_get xs c ≡ Some x
    → ((k : ℕ) → At xs k (P k)) → ((k : ℕ) (s : S) → nat_eq k c ≡ false → P k s → Q k s) → Q c y
    → (k : ℕ) → At (set xs c y) k (Q k)
at_changed P Q xs c x y there all keeps new k s e = by (nat_eq k c) refl
  where
    by : (b : Bool) → nat_eq k c ≡ b → Q k s
    by true same =
        let is : k ≡ c = eqb-true k c same in
        let read : slice_get (set xs c y) c ≡ Some y = read_same xs c x y there in
        let at_c : slice_get (set xs c y) c ≡ Some s = ap (slice_get (set xs c y)) (sym is) ∙ e in
        let equal : y ≡ s = cc in
        subst (λ n. Q n s) (sym is) (subst (Q c) equal new)
    by false other =
        let ne : k ≢ c = λ e. absurd (let yes = eq-eqb k c e in cc) in
        keeps k s other (all k s (sym (read_other xs c k y ne) ∙ e))

-- what is replaced at a number
pub replaced_same : {A : Type 0} (things : ℕ → A) (n : ℕ) (thing : A) → replaced things n thing n ≡ thing
replaced_same things n thing = let same : nat_eq n n ≡ true = eq-eqb n n refl in rw same refl

-- and at others
pub replaced_other : {A : Type 0} (things : ℕ → A) (n k : ℕ) (thing : A) → nat_eq k n ≡ false
    → replaced things n thing k ≡ things k
replaced_other things n k thing other = rw other refl

-- ---- a chart of a net

module _ {G : Type 0} (members : Engine G) (net : Parts G) (c : ℕ) (seat : Seat G)
    (there : slice_get net.seats.items c ≡ Some seat) where
  pub chart_there : slice_get (charts_of members net) c ≡ Some (chart_of members seat)
  chart_there = get_mapped (chart_of members) net.seats.items c seat there

  pub declared_is : (net_shown members net).declared c ≡ names_at members seat
  declared_is =
      let none : Names = record { states = []; vars = []; events = [] } in
      ap (λ (o : Option (ChartOf members.Program)). option_map_or
      (λ (chart : ChartOf members.Program). members.declared chart.program) o none) chart_there

  pub tree_is : (net_shown members net).trees c ≡ members.tree (members.program seat.engine)
  tree_is = ap (λ (o : Option (ChartOf members.Program)). option_map_or
      (λ (chart : ChartOf members.Program). members.tree chart.program) o (tree_of [] []))
      chart_there

  pub name_is : slice_index_or (net_shown members net).names c [] ≡ seat.name
  name_is = get_or_from_slice_get (net_shown members net).names c seat.name []
      (get_mapped (λ (chart : ChartOf members.Program). chart.name) (charts_of members net) c (chart_of members seat)
      chart_there)

  -- what its start gives is what the net gives
  pub gives_start : (before : Option World) (w : World) (fault : Option Fault) → before ≡ None → SeatGives members seat
      None w fault
      → ChartGives (net_shown members net) c before None (record { world = w; fault = fault })
  gives_start before w fault is h =
      let m : Moment = record { world = w; fault = fault } in
      subst (λ (b : Option World). ChartGives (net_shown members net) c b None m) (sym is)
      (subst (λ (o : Option (ChartOf members.Program)). start_of members o w fault) (sym chart_there) h)

  -- what an event gives it is what the net gives
  pub gives_event : (before : Option World) (given : EventWithInputs) (w : World) (fault : Option Fault)
      → before ≡ Some (members.world seat.engine)
      → SeatGives members seat (Some given) w fault
      → ChartGives (net_shown members net) c before (Some given) (record { world = w; fault = fault })
  gives_event before given w fault is h =
      let m : Moment = record { world = w; fault = fault } in
      subst (λ (b : Option World). ChartGives (net_shown members net) c b (Some given) m) (sym is)
      (subst (λ (o : Option (ChartOf members.Program)). ReactsWithInputs (reaction_of members o)
      (members.world seat.engine) given w fault)
      (sym chart_there) h)

-- a route that joins two charts of a net is one that the net may have
pub is_route : {G : Type 0} (members : Engine G) (net : Parts G) (route : Route) (from to : ChartOf members.Program)
    → slice_get (charts_of members net) route.from ≡ Some from → slice_get (charts_of members net) route.to ≡ Some to
    → Joins (members.declared from.program) (members.declared to.program) route → 0 < route.cap → route.cap ≤ CAP_LIMIT
    → IsRoute (net_shown members net) route
is_route members net route from to from_there to_there joins some few =
    let charts = charts_of members net in
    let none : Names = record { states = []; vars = []; events = [] } in
    let count : length (net_shown members net).names ≡ length charts =
    length-map charts (λ (chart : ChartOf members.Program). chart.name) in
    let declared : (o : Option (ChartOf members.Program)) → Names =
    λ o. option_map_or (λ (chart : ChartOf members.Program). members.declared chart.program) o none in
    record {
      from = omega (arith, count, slice_get_within charts route.from from from_there);
      to = omega (arith, count, slice_get_within charts route.to to to_there);
      joins = subst (λ (n : Names). Joins n (declared (slice_get charts route.to)) route) (sym (ap declared from_there))
          (subst (λ (n : Names). Joins (members.declared from.program) n route) (sym (ap declared to_there)) joins);
      some = some;
      few = few;
    }

-- ---- nets of the same charts and routes

-- what holds of a net holds of one with the same charts and routes
pub along : {G : Type 0} (members : Engine G) (old new : Parts G) (P : Net → Type 0)
    → charts_of members new ≡ charts_of members old
    → routes_of new ≡ routes_of old → P (net_shown members old) → P (net_shown members new)
along members old new P charts routes h =
    subst (λ (ch : List (ChartOf members.Program)). P (net_of members ch (routes_of new))) (sym charts)
    (subst (λ (rs : List Route). P (net_of members (charts_of members old) rs)) (sym routes) h)

-- a chart is the same where its name and its program are
pub chart_same : {G : Type 0} (members : Engine G) (before after : Seat G) → after.name ≡ before.name
    → members.program after.engine ≡ members.program before.engine → chart_of members after ≡ chart_of members before
chart_same members before after name program =
    ap (λ (n : List ℕ). record { name = n; program = members.program after.engine }) name
    ∙ ap (λ (p : members.Program). record { name = before.name; program = p }) program

-- there are as many charts
pub same_count : {G : Type 0} (members : Engine G) (old new : Parts G) → charts_of members new ≡ charts_of members old
    → length new.seats.items ≡ length old.seats.items
same_count members old new charts =
    sym (length-map new.seats.items (chart_of members)) ∙ ap (λ (ch : List (ChartOf members.Program)). length ch) charts
    ∙ length-map old.seats.items (chart_of members)

-- The parts still fit where charts and routes are the same, each chart has what its steps need, and so do the rings.
pub sound_with : {G : Type 0} (members : Engine G) (old new : Parts G) → charts_of members new ≡ charts_of members old
    → routes_of new ≡ routes_of old → ((c : ℕ) → At new.seats.items c (IsSeat members)) → HaveRoom new.routes.items
    new.rings.items
    → ((r : ℕ) (route : Route) (ring : Queue) → slice_get old.routes.items r ≡ Some route → slice_get new.rings.items r
    ≡ Some ring
    → CanTakeAll (net_shown members old) route ring)
    → PartsFit members old → PartsFit members new
sound_with members old new charts routes seats room items sound = record {
  charts_few = subst (λ n. n ≤ 16) (sym (same_count members old new charts)) sound.charts_few;
  routes_few = subst (λ n. n ≤ 64) (sym (ap (λ (rs : List Route). length rs) routes)) sound.routes_few;
  seats = seats;
  routes = λ r route there. along members old new (λ net. IsRoute net route) charts routes
      (sound.routes r route (sym (ap (λ (rs : List Route). slice_get rs r) routes) ∙ there));
  room = room;
  items = λ r route ring there ring_there. along members old new (λ net. CanTakeAll net route ring) charts routes
      (items r route ring (sym (ap (λ (rs : List Route). slice_get rs r) routes) ∙ there) ring_there);
}
