-- A net with one chart or one route more.
use Rattle.std.proofs.Common.{◌≡◌, ℕ, zero, suc, ◌+◌, ◌<◌, ◌≤◌, List, [], ◌∷◌, ◌++◌, length, map, Option, Some, refl}
use Rattle.std.proofs.Common.{sym, ap, ◌∙◌, subst, arith, length-append}
use Rattle.std.specs.Prelude.{slice_get}
use Rattle.std.specs.List.{AllByRecursion}
use Rattle.std.specs.Option.{option_map_or}
use Rattle.std.proofs.lemmas.List.{length-map}
use Rattle.actions.specs.Engines.{Fresh}
use Rattle.actions.specs.Names.{Names}
use Rattle.actions.specs.declared.engine.Engine.{Ghosts as Engine}
use Rattle.chart_net.specs.Changes.{At}
use Rattle.chart_net.specs.Nets.{ChartOf, net_of}
use Rattle.chart_net.specs.NetParts.{CanTakeAll, IsNet, charts_of, net_shown, routes_of}
use Rattle.chart_net.specs.Rings.{Queue}
use Rattle.chart_net.specs.Routes.{CanTake, IsRoute}
use Rattle.net_text.specs.Routes.{Joins}
use Rattle.chart_net.specs.Seats.{IsSeat, chart_of}
use Rattle.chart_net.specs.declared.net.Net.{Net as Parts}
use Rattle.net_text.specs.declared.route.Route.{Route}
use Rattle.chart_net.specs.declared.seat.Seat.{Seat}
use Rattle.chart_net.proofs.PartLemmas.{sound_with}

-- ---- lists

-- nothing stands in a list of none
pub at_none : {A : Type 0} (P : A → Type 0) (xs : List A) (k : ℕ) → xs ≡ [] → At xs k P
at_none P xs k none x e = absurd (let gone : slice_get [] k ≡ Some x = ap (λ l. slice_get l k) (sym none) ∙ e in cc)

-- what holds of each of a list, and of one more, holds of all
pub at_appended : {A : Type 0} (P : A → Type 0) (xs : List A) (y : A) → ((k : ℕ) → At xs k P) → P y → (k : ℕ)
    → At (xs ++ y ∷ []) k P
at_appended P [] y all new zero x e = let same : y ≡ x = cc in subst P same new
at_appended P [] y all new (suc k) x e = absurd cc
at_appended P (z ∷ zs) y all new zero x e = all 0 x e
at_appended P (z ∷ zs) y all new (suc k) x e = at_appended P zs y (λ n. all (suc n)) new k x e

-- so of pairs from two lists
pub pairs_appended : {A B : Type 0} (P : A → B → Type 0) (xs : List A) (ys : List B) (x : A) (y : B)
    → length xs ≡ length ys
    → ((k : ℕ) (a : A) (b : B) → slice_get xs k ≡ Some a → slice_get ys k ≡ Some b → P a b) → P x y
    → (k : ℕ) (a : A) (b : B) → slice_get (xs ++ x ∷ []) k ≡ Some a → slice_get (ys ++ y ∷ []) k ≡ Some b → P a b
pairs_appended P [] [] x y same all new zero a b e e' =
    let first : x ≡ a = cc in
    let second : y ≡ b = cc in
    subst (λ u. P u b) first (subst (P x) second new)
pairs_appended P [] [] x y same all new (suc k) a b e e' = absurd cc
pairs_appended P [] (v ∷ ys) x y same all new k a b e e' = absurd (omega arith)
pairs_appended P (u ∷ xs) [] x y same all new k a b e e' = absurd (omega arith)
pairs_appended P (u ∷ xs) (v ∷ ys) x y same all new zero a b e e' = all 0 a b e e'
pairs_appended P (u ∷ xs) (v ∷ ys) x y same all new (suc k) a b e e' =
    pairs_appended P xs ys x y (omega arith) (λ n. all (suc n)) new k a b e e'

-- the front of a list stays where more is appended
pub get_front : {A : Type 0} (xs ys : List A) (k : ℕ) → k < length xs → slice_get (xs ++ ys) k ≡ slice_get xs k
get_front [] ys k within = absurd (omega arith)
get_front (x ∷ xs) ys zero within = refl
get_front (x ∷ xs) ys (suc k) within = get_front xs ys k (omega arith)

-- each element of a longer list is mapped
pub mapped_more : {A B : Type 0} (f : A → B) (xs : List A) (y : A) → map f (xs ++ y ∷ []) ≡ map f xs ++ f y ∷ []
mapped_more f [] y = refl
mapped_more f (x ∷ xs) y = ap (λ l. f x ∷ l) (mapped_more f xs y)

-- ---- no charts and no routes

pub net_empty : {G : Type 0} (members : Engine G) (net : Parts G) → net.seats.items ≡ [] → net.routes.items ≡ []
    → net.rings.items ≡ []
    → IsNet members net
net_empty members net seats routes rings = record {
  sound = record {
    charts_few = subst (λ (l : List _). length l ≤ 16) (sym seats) (omega arith);
    routes_few = subst (λ (l : List Route). length l ≤ 64) (sym routes) (omega arith);
    seats = λ c. at_none (IsSeat members) net.seats.items c seats;
    routes = λ r. at_none (IsRoute (net_shown members net)) net.routes.items r routes;
    room = record {
      count = ap (λ (l : List Queue). length l) rings ∙ sym (ap (λ (l : List Route). length l) routes);
      caps = λ r route ring there. at_none
          (λ (x : Route). (slice_get net.rings.items r ≡ Some ring) → ring.cap ≡ x.cap) net.routes.items r routes route
          there;
    };
    items = λ r route ring there. at_none
        (λ (x : Route). (slice_get net.rings.items r ≡ Some ring) → CanTakeAll (net_shown members net) x ring)
        net.routes.items r routes route there;
  };
  fresh = λ c. at_none _ net.seats.items c seats;
  empty = λ r. at_none (λ (q : Queue). q.items ≡ []) net.rings.items r rings;
}

-- the same charts and routes in other places
pub net_kept : {G : Type 0} (members : Engine G) (old new : Parts G) → new.seats.items ≡ old.seats.items
    → new.routes.items ≡ old.routes.items
    → new.rings.items ≡ old.rings.items → IsNet members old → IsNet members new
net_kept {G} members old new seats routes rings net =
    let sound = net.sound in
    let back_ring : (r : ℕ) (ring : Queue) → slice_get new.rings.items r ≡ Some ring → slice_get old.rings.items r
    ≡ Some ring =
    λ r ring there. sym (ap (λ (l : List Queue). slice_get l r) rings) ∙ there in
    record {
      sound = sound_with members old new (ap (map (chart_of members)) seats) routes
          (λ c. subst (λ (l : List (Seat G)). At l c (IsSeat members)) (sym seats) (sound.seats c))
          (record {
            count = ap (λ (l : List Queue). length l) rings ∙ sound.room.count ∙ sym
                (ap (λ (l : List Route). length l) routes);
            caps = λ r route ring there ring_there.
                sound.room.caps r route ring (sym (ap (λ (l : List Route). slice_get l r) routes) ∙ there)
                (back_ring r ring ring_there);
          })
          (λ r route ring there ring_there. sound.items r route ring there (back_ring r ring ring_there)) sound;
      fresh = λ c. subst
          (λ (l : List (Seat G)). At l c (λ (s : Seat G). (members.stage s.engine ≡ Fresh) × (s.index ≤ 0)))
          (sym seats) (net.fresh c);
      empty = λ r ring there. net.empty r ring (back_ring r ring there);
    }

-- ---- one chart more

module _ {G : Type 0} (members : Engine G) (old new : Parts G) (seat : Seat G)
    (seats : new.seats.items ≡ old.seats.items ++ seat ∷ [])
    (routes : new.routes.items ≡ old.routes.items) (rings : new.rings.items ≡ old.rings.items) where
  pub charts_added : charts_of members new ≡ charts_of members old ++ chart_of members seat ∷ []
  charts_added = ap (map (chart_of members)) seats ∙ mapped_more (chart_of members) old.seats.items seat

  -- how many names there are
  names_old : length (net_shown members old).names ≡ length (charts_of members old)
  names_old = length-map (charts_of members old) (λ (chart : ChartOf members.Program). chart.name)

  names_new : length (net_shown members new).names ≡ length (net_shown members old).names + 1
  names_new =
      length-map (charts_of members new) (λ (chart : ChartOf members.Program). chart.name)
      ∙ ap (λ (l : List (ChartOf members.Program)). length l) charts_added
      ∙ length-append (charts_of members old) (chart_of members seat ∷ []) ∙ ap (λ n. n + 1) (sym names_old)

  -- the charts that were there declare what they did
  declared_kept : (c : ℕ) → c < length (net_shown members old).names → (net_shown members new).declared c
      ≡ (net_shown members old).declared c
  declared_kept c within =
      let none : Names = record { states = []; vars = []; events = [] } in
      let below : c < length (charts_of members old) = omega (arith, names_old) in
      ap (λ (o : Option (ChartOf members.Program)). option_map_or
      (λ (chart : ChartOf members.Program). members.declared chart.program) o none)
      (ap (λ (l : List (ChartOf members.Program)). slice_get l c) charts_added
      ∙ get_front (charts_of members old) (chart_of members seat ∷ []) c below)

  route_kept : (route : Route) → IsRoute (net_shown members old) route → IsRoute (net_shown members new) route
  route_kept route is = record {
    from = omega (arith, names_new, is.from);
    to = omega (arith, names_new, is.to);
    joins = subst (λ (n : Names). Joins n ((net_shown members new).declared route.to) route)
        (sym (declared_kept route.from is.from))
        (subst (λ (n : Names). Joins ((net_shown members old).declared route.from) n route)
        (sym (declared_kept route.to is.to)) is.joins);
    some = is.some;
    few = is.few;
  }

  pub chart_added : IsSeat members seat → members.stage seat.engine ≡ Fresh → seat.index ≡ 0
      → length (charts_of members old) < 16
      → IsNet members old → IsNet members new
  chart_added is fresh index few net =
      let sound = net.sound in
      let back : (r : ℕ) (route : Route) → slice_get new.routes.items r ≡ Some route → slice_get old.routes.items r
      ≡ Some route =
      λ r route there. sym (ap (λ (l : List Route). slice_get l r) routes) ∙ there in
      let back_ring : (r : ℕ) (ring : Queue) → slice_get new.rings.items r ≡ Some ring → slice_get old.rings.items r
      ≡ Some ring =
      λ r ring there. sym (ap (λ (l : List Queue). slice_get l r) rings) ∙ there in
      let count : length new.seats.items ≡ length old.seats.items + 1 =
      ap (λ (l : List (Seat G)). length l) seats ∙ length-append old.seats.items (seat ∷ []) in
      let before : length (charts_of members old) ≡ length old.seats.items =
      length-map old.seats.items (chart_of members) in
      record {
        sound = record {
          charts_few = omega (arith, count, before, few);
          routes_few = subst (λ (l : List Route). length l ≤ 64) (sym routes) sound.routes_few;
          seats = λ c. subst (λ (l : List (Seat G)). At l c (IsSeat members)) (sym seats)
              (at_appended (IsSeat members) old.seats.items seat sound.seats is c);
          routes = λ r route there. route_kept route (sound.routes r route (back r route there));
          room = record {
            count = ap (λ (l : List Queue). length l) rings ∙ sound.room.count ∙ sym
                (ap (λ (l : List Route). length l) routes);
            caps = λ r route ring there ring_there. sound.room.caps r route ring (back r route there)
                (back_ring r ring ring_there);
          };
          items = λ r route ring there ring_there.
              subst (λ (n : Names). AllByRecursion (CanTake n route.target) ring.items)
              (sym (declared_kept route.to (sound.routes r route (back r route there)).to))
              (sound.items r route ring (back r route there) (back_ring r ring ring_there));
        };
        fresh = λ c. subst
            (λ (l : List (Seat G)). At l c (λ (s : Seat G). (members.stage s.engine ≡ Fresh) × (s.index ≤ 0)))
            (sym seats)
            (at_appended (λ (s : Seat G). (members.stage s.engine ≡ Fresh) × (s.index ≤ 0)) old.seats.items seat
            net.fresh
            (fresh, omega (arith, index)) c);
        empty = λ r ring there. net.empty r ring (back_ring r ring there);
      }

-- ---- one route more

pub route_added : {G : Type 0} (members : Engine G) (old new : Parts G) (route : Route) (ring : Queue)
    → new.seats.items ≡ old.seats.items
    → new.routes.items ≡ old.routes.items ++ route ∷ [] → new.rings.items ≡ old.rings.items ++ ring ∷ []
    → ring ≡ record { items = []; cap = route.cap } → IsRoute (net_shown members old) route
    → length (routes_of old) < 64
    → IsNet members old → IsNet members new
route_added {G} members old new route ring seats routes rings made is few net =
    let sound = net.sound in
    let charts : charts_of members new ≡ charts_of members old = ap (map (chart_of members)) seats in
    let no_items : ring.items ≡ [] = ap (λ (q : Queue). q.items) made in
    let kept : (x : Route) → IsRoute (net_shown members old) x → IsRoute (net_shown members new) x =
    λ x h. subst (λ (ch : List (ChartOf members.Program)). IsRoute (net_of members ch (routes_of new)) x)
    (sym charts)
    (record { from = h.from; to = h.to; joins = h.joins; some = h.some; few = h.few }) in
    let can : (x : Route) (q : Queue) → CanTakeAll (net_shown members old) x q → CanTakeAll (net_shown members new) x
    q =
    λ x q h. subst (λ (ch : List (ChartOf members.Program)). CanTakeAll (net_of members ch (routes_of new)) x q)
    (sym charts) h in
    record {
      sound = record {
        charts_few = subst (λ (l : List (Seat G)). length l ≤ 16) (sym seats) sound.charts_few;
        routes_few = let count = ap (λ (l : List Route). length l) routes ∙ length-append old.routes.items
            (route ∷ []) in omega (arith, count, few);
        seats = λ c. subst (λ (l : List (Seat G)). At l c (IsSeat members)) (sym seats) (sound.seats c);
        routes = λ r. subst (λ (l : List Route). At l r (IsRoute (net_shown members new))) (sym routes)
            (at_appended (IsRoute (net_shown members new)) old.routes.items route
            (λ k x there. kept x (sound.routes k x there)) (kept route is) r);
        room = record {
          count = ap (λ (l : List Queue). length l) rings ∙ length-append old.rings.items (ring ∷ []) ∙ ap (λ n. n + 1)
              sound.room.count
              ∙ sym (ap (λ (l : List Route). length l) routes ∙ length-append old.routes.items (route ∷ []));
          caps = λ r x q there ring_there.
              pairs_appended (λ (a : Route) (b : Queue). b.cap ≡ a.cap) old.routes.items old.rings.items route ring
              (sym sound.room.count)
              sound.room.caps (ap (λ (q : Queue). q.cap) made) r x q
              (sym (ap (λ (l : List Route). slice_get l r) routes) ∙ there)
              (sym (ap (λ (l : List Queue). slice_get l r) rings) ∙ ring_there);
        };
        items = λ r x q there ring_there.
            pairs_appended (CanTakeAll (net_shown members new)) old.routes.items old.rings.items route ring
            (sym sound.room.count)
            (λ k a b at at'. can a b (sound.items k a b at at'))
            (subst (AllByRecursion (CanTake ((net_shown members new).declared route.to) route.target)) (sym no_items)
            tt) r x q
            (sym (ap (λ (l : List Route). slice_get l r) routes) ∙ there)
            (sym (ap (λ (l : List Queue). slice_get l r) rings) ∙ ring_there);
      };
      fresh = λ c. subst
          (λ (l : List (Seat G)). At l c (λ (s : Seat G). (members.stage s.engine ≡ Fresh) × (s.index ≤ 0)))
          (sym seats) (net.fresh c);
      empty = λ r. subst (λ (l : List Queue). At l r (λ (q : Queue). q.items ≡ [])) (sym rings)
          (at_appended (λ (q : Queue). q.items ≡ []) old.rings.items ring net.empty no_items r);
    }
