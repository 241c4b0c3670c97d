-- A search that goes back to places.
use Rattle.std.proofs.Common.{◌≡◌, ℕ, true, false, List, [], ◌∷◌, ◌++◌, map, refl, sym, subst}
use Rattle.flow_base.specs.declared.bounds.Bounds.{Bounds}
use Rattle.flow_base.specs.declared.fault.Fault.{Fault}
use Rattle.actions.specs.Exprs.{Stmt}
use Rattle.actions.specs.World.{World, Life}
use Rattle.actions.specs.Work.{Run, Ended, Faulted, then_do, Now, Done}
use Rattle.sos_interpreter.proofs.Paths.{search_end, search_disabled, search_goes, dest_visit}
use Rattle.sos_interpreter.proofs.Settling.{settled_now}
use Rattle.sos_interpreter.specs.Settled.{Settled}
use Rattle.sos_rules.specs.Parts.{Found, Fire, DeadEnd, No, Stop}
use Rattle.sos_rules.specs.Rules.{upto}
use Rattle.sos_rules.specs.Searches.{after_junction, is_enabled, pay}
use Rattle.checked_chart.specs.Chart.{Chart, Trans, junction}
use Rattle.checked_chart.specs.Views.{list_seen, block_seen}
use Rattle.checked_chart.specs.declared.parts.Dest.TheVariants.{Junction}
use Rattle.sos_interpreter.specs.declared.searches.Place.{Place}

-- what the whole search gives, where the search of the newest junction's list gives q
abbrev pub Unwinds : Chart → Bounds → Life → Now → List Place → Run Found → Run Found → Type 0
Unwinds c b life now [] q r = q ≡ r
Unwinds c b life now (pl ∷ above) q r =
    (p : Run Found) × Unwinds c b life now above q p
    × Settled
    (λ n. then_do p (after_junction c b (upto c b n) life (block_seen pl.action.now) (list_seen pl.rest.now) now)) r

-- whatever the rest gives, the whole gives
pub record Leads (c : Chart) (b : Bounds) (life : Life) (now : Now) (places : List Place) (rest : List Trans)
    (w : World) (list : List Trans) (w0 : World) : Type 0 where
  pub by : (q r : Run Found) → Settled (λ n. (upto c b n).search life rest now w) q → Unwinds c b life now places q r
      → Settled (λ n. (upto c b n).search life list now w0) r

module _ (c : Chart) (b : Bounds) (life : Life) (now : Now) where
  -- the rest of the list at a place gives r, after the list of its junction gave q
  abbrev pub Back : Place → Run Found → Run Found → Type 0
  Back pl q r =
      Settled
      (λ n. then_do q (after_junction c b (upto c b n) life (block_seen pl.action.now) (list_seen pl.rest.now) now)) r

  -- of all places the newest comes first
  pub unwinds_first : (places : List Place) (pl : Place) (q r : Run Found)
      → Unwinds c b life now (places ++ pl ∷ []) q r → (p : Run Found) × Back pl q p × Unwinds c b life now places p r
  unwinds_first [] pl q r (p, e, s) = (
    r,
    subst (λ q. Back pl q r) (sym e) s,
    refl,
  )
  unwinds_first (x ∷ xs) pl q r (p, u, s) = let h = unwinds_first xs pl q p u in (h.0, h.1, (p, h.2, s))

  -- the search goes back to the newest place, and then to the others
  pub unwinds_more : (places : List Place) (pl : Place) (q p r : Run Found) → Back pl q p
      → Unwinds c b life now places p r → Unwinds c b life now (places ++ pl ∷ []) q r
  unwinds_more [] pl q p r s e = (
    q,
    refl,
    subst (λ r. Back pl q r) e s,
  )
  unwinds_more (x ∷ xs) pl q p r s (t, u, v) = (t, unwinds_more xs pl q p t s u, v)

  -- a fault goes through every place
  pub unwinds_fault : (places : List Place) (x : Fault) (w : World)
      → Unwinds c b life now places (Faulted x w) (Faulted x w)
  unwinds_fault [] x w = refl
  unwinds_fault (pl ∷ above) x w = (Faulted x w, unwinds_fault above x w, settled_now _)

  -- a stop goes through every place
  pub unwinds_stop : (places : List Place) (w : World) → Unwinds c b life now places (Ended Stop w) (Ended Stop w)
  unwinds_stop [] w = refl
  unwinds_stop (pl ∷ above) w = (Ended Stop w, unwinds_stop above w, settled_now _)

  -- a dead end goes through every place
  pub unwinds_dead_end : (places : List Place) (w : World)
      → Unwinds c b life now places (Ended DeadEnd w) (Ended DeadEnd w)
  unwinds_dead_end [] w = refl
  unwinds_dead_end (pl ∷ above) w = (Ended DeadEnd w, unwinds_dead_end above w, settled_now _)

  -- a state that was found collects the action of every place
  pub unwinds_fire : (places : List Place) (d : ℕ) (actions : List (List Stmt)) (w : World)
      → Unwinds c b life now places (Ended (Fire d actions) w)
      (Ended (Fire d (map (λ p. block_seen p.action.now) places ++ actions)) w)
  unwinds_fire [] d actions w = refl
  unwinds_fire (pl ∷ above) d actions w = (
    Ended (Fire d (map (λ p. block_seen p.action.now) above ++ actions)) w,
    unwinds_fire above d actions w,
    settled_now _,
  )

  -- a search begins with its own list and no places
  pub leads_init : (list : List Trans) (w : World) → Leads c b life now [] list w list w
  leads_init list w = record { by = λ q r h e. subst (λ r. Settled (λ n. (upto c b n).search life list now w) r) e h }

  module _ (places : List Place) (w : World) (list : List Trans) (w0 : World) where
    -- at the end of a list the search goes back to the newest place
    pub leads_pop : (pl : Place) → Leads c b life now (places ++ pl ∷ []) [] w list w0
        → Leads c b life now places (list_seen pl.rest.now) w list w0
    leads_pop pl l = record {
      by = λ q r h u. l.by (Ended No w) r (search_end c b now) (unwinds_more places pl (Ended No w) q r h u);
    }

    module _ (t : Trans) (ts : List Trans) (l : Leads c b life now places (t ∷ ts) w list w0) where
      -- a transition that isn't enabled is passed over
      pub leads_skip : is_enabled t now w ≡ Ended false w → Leads c b life now places ts w list w0
      leads_skip e = record { by = λ q r h u. l.by q r (search_disabled c b now e h) u }

      -- a fault ends the whole search
      pub leads_fault : (x : Fault) (u : World) → Settled (λ n. (upto c b n).search life (t ∷ ts) now w) (Faulted x u)
          → Settled (λ n. (upto c b n).search life list now w0) (Faulted x u)
      leads_fault x u h = l.by _ _ h (unwinds_fault places x u)

      -- a stop ends the whole search
      pub leads_stop : (u : World) → Settled (λ n. (upto c b n).search life (t ∷ ts) now w) (Ended Stop u)
          → Settled (λ n. (upto c b n).search life list now w0) (Ended Stop u)
      leads_stop u h = l.by _ _ h (unwinds_stop places u)

      -- a dead end ends the whole search
      pub leads_dead_end : (u : World) → Settled (λ n. (upto c b n).search life (t ∷ ts) now w) (Ended DeadEnd u)
          → Settled (λ n. (upto c b n).search life list now w0) (Ended DeadEnd u)
      leads_dead_end u h = l.by _ _ h (unwinds_dead_end places u)

      -- a state that is found ends the whole search, with the actions on the way to it
      pub leads_fire : (d : ℕ) (u : World)
          → Settled (λ n. (upto c b n).search life (t ∷ ts) now w) (Ended (Fire d (t.action ∷ [])) u)
          → Settled (λ n. (upto c b n).search life list now w0)
          (Ended (Fire d (map (λ p. block_seen p.action.now) places ++ t.action ∷ [])) u)
      leads_fire d u h = l.by _ _ h (unwinds_fire places d (t.action ∷ []) u)

      -- a junction with transitions is searched next, and its place is kept
      pub leads_push : (pl : Place) (j : ℕ) (next : List Trans) (v u : World) → list_seen pl.rest.now ≡ ts
          → block_seen pl.action.now ≡ t.action → is_enabled t now w ≡ Ended true w
          → Settled (λ n. (upto c b n).block life t.condition now w) (Ended Done v) → Junction j ≡ t.dest
          → pay b v ≡ Ended tt u → next ≡ junction c j → (next ≡ [] → ⊥)
          → Leads c b life now (places ++ pl ∷ []) next u list w0
      leads_push pl j next v u er ea e h d p k some = record {
        by = λ q r s un.
            let f = unwinds_first places pl q r un in
            let back : Settled (λ n. then_do q (after_junction c b (upto c b n) life t.action ts now)) f.0 =
            subst (λ a. Settled (λ n. then_do q (after_junction c b (upto c b n) life a ts now)) f.0) ea
            (subst (λ l. Settled
            (λ n. then_do q (after_junction c b (upto c b n) life (block_seen pl.action.now) l now)) f.0) er f.1) in
            l.by f.0 r (search_goes c b now e h d
            (dest_visit c b now life t.action ts j next v u q f.0 p k some s back)) f.2;
      }

  -- at the end of a list with no places the search finds nothing
  pub leads_none : (w : World) (list : List Trans) (w0 : World) → Leads c b life now [] [] w list w0
      → Settled (λ n. (upto c b n).search life list now w0) (Ended No w)
  leads_none w list w0 l = l.by (Ended No w) (Ended No w) (search_end c b now) refl
