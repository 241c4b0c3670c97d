-- A search of a list that always leads somewhere finds a state, or is stopped; and default lists of valid charts do.
use Rattle.std.proofs.Common.{◌≡◌, ℕ, zero, suc, ◌<◌, List, [], ◌∷◌, None, Bool, true, false, refl, sym, ap, ◌∙◌, subst}
use Rattle.std.proofs.Common.{arith}
use Rattle.flow_base.specs.declared.bounds.Bounds.{Bounds}
use Rattle.actions.specs.Exprs.{Stmt}
use Rattle.actions.specs.World.{World, Life}
use Rattle.actions.specs.Work.{Run, Ended, Faulted, Unfinished, Work, then_do, choose, give, End, Done, Cut, Now}
use Rattle.sos_rules.specs.Finds.{IsFind, Finds}
use Rattle.sos_rules.specs.Parts.{Found, Fire, DeadEnd, No, Stop, Parts}
use Rattle.sos_rules.specs.Searches.{event_fits, guard_holds, is_enabled, after_junction, visit, at_dest}
use Rattle.sos_rules.specs.Searches.{after_condition}
use Rattle.sos_rules.specs.Rules.{upto}
use Rattle.checked_chart.specs.Chart.{Chart, Trans, junction, list_of}
use Rattle.checked_chart.specs.Reached.{links_of, LeadsTo, Reached, Directly, Through}
use Rattle.checked_chart.specs.Valid.{IsValid, Closes}
use Rattle.checked_chart.specs.declared.parts.ListKind.TheVariants.{Default}
use Rattle.active_config.specs.declared.comp.Comp.TheVariants.{Or}
use Rattle.active_config.specs.Tree.{state_count, comp_of}
use Rattle.checked_chart.specs.declared.parts.Dest.{Dest}
use Rattle.checked_chart.specs.declared.parts.Dest.TheVariants.{State, Junction}

-- a destination from which a search goes on: a state, or a junction that is good
abbrev LeadsInto : (ℕ → Type 0) → Dest → Type 0
LeadsInto good (State d) = Unit {0}
LeadsInto good (Junction j) = good j

-- the last transition has no event and no guard, and each junction that the list leads to is good
abbrev AlwaysGoes : (ℕ → Type 0) → List Trans → Type 0
AlwaysGoes good [] = ⊥
AlwaysGoes good (t ∷ []) = (t.event ≡ None) × (t.guard ≡ None) × LeadsInto good t.dest
AlwaysGoes good (t ∷ u ∷ ts) = LeadsInto good t.dest × AlwaysGoes good (u ∷ ts)

-- after work that is no search comes one that finds
then_finds : {A : Type 0} (r : Run A) (f : A → Work Found) → ((a : A) (w : World) → Finds (f a w)) → Finds (then_do r f)
then_finds (Ended a w) f h = h a w
then_finds (Faulted x w) f h = tt
then_finds Unfinished f h = tt

-- after a search that finds comes one that does where it found something
from_find : (r : Run Found) (f : Found → Work Found) → Finds r → ((a : Found) (w : World) → IsFind a → Finds (f a w))
    → Finds (then_do r f)
from_find (Ended a w) f h k = k a w h
from_find (Faulted x w) f h k = tt
from_find Unfinished f h k = tt

module _ (c : Chart) (b : Bounds) (good : ℕ → Type 0) (closed : (j : ℕ) → good j → AlwaysGoes good (junction c j)) where
  module _ (p : Parts) (ih : (life : Life) (list : List Trans) (now : Now) (w : World) → AlwaysGoes good list
      → Finds (p.search life list now w)) (life : Life) (now : Now) where
    -- the parts of a search find, where the searches of the lists that they lead to do
    after_junction_finds : (action : List Stmt) (rest : List Trans) (f : Found) (w : World) → IsFind f
        → Finds (after_junction c b p life action rest now f w)
    after_junction_finds action rest (Fire d actions) w h = tt
    after_junction_finds action rest DeadEnd w h = h
    after_junction_finds action rest No w h = absurd h
    after_junction_finds action rest Stop w h = tt

    visit_finds : (action : List Stmt) (rest list : List Trans) (w : World) → AlwaysGoes good list
        → Finds (visit c b p life action rest now list w)
    visit_finds action rest [] w h = absurd h
    visit_finds action rest (t ∷ ts) w h =
        from_find (p.search life (t ∷ ts) now w) (after_junction c b p life action rest now) (ih life (t ∷ ts) now w h)
        (after_junction_finds action rest)

    dest_finds : (action : List Stmt) (rest : List Trans) (d : Dest) (w : World) → LeadsInto good d
        → Finds (at_dest c b p life action rest now d w)
    dest_finds action rest (State d) w h = tt
    dest_finds action rest (Junction j) w h =
        then_finds _ _ (λ _ w. visit_finds action rest (junction c j) w (closed j h))

    after_condition_finds : (t : Trans) (rest : List Trans) (e : End) (w : World) → LeadsInto good t.dest
        → Finds (after_condition c b p life t rest now e w)
    after_condition_finds t rest Done w h = dest_finds t.action rest t.dest w h
    after_condition_finds t rest Cut w h = tt

    -- the search finds where its transition is taken
    taken : (t : Trans) (rest : List Trans) (w : World) → LeadsInto good t.dest
        → Finds (then_do (p.block life t.condition now w) (after_condition c b p life t rest now))
    taken t rest w h = then_finds _ _ (λ e w. after_condition_finds t rest e w h)

    -- the search finds whether its transition is taken or not
    chosen : (t u : Trans) (ts : List Trans) (e : Bool) (w : World) → LeadsInto good t.dest → AlwaysGoes good (u ∷ ts)
        → Finds (choose e (λ w. then_do (p.block life t.condition now w) (after_condition c b p life t (u ∷ ts) now))
        (p.search life (u ∷ ts) now) w)
    chosen t u ts true w h g = taken t (u ∷ ts) w h
    chosen t u ts false w h g = ih life (u ∷ ts) now w g

    -- a transition with no event and no guard is enabled
    always : (t : Trans) (w : World) → t.event ≡ None → t.guard ≡ None → is_enabled t now w ≡ Ended true w
    always t w e g =
        ap (λ o. choose (event_fits o now.event) (guard_holds t.guard) (give false) w) e ∙ ap (λ o. guard_holds o w) g

  -- at each height a search of a list that always leads somewhere finds
  pub search_finds : (n : ℕ) (life : Life) (list : List Trans) (now : Now) (w : World) → AlwaysGoes good list
      → Finds ((upto c b n).search life list now w)
  search_finds zero life list now w h = tt
  search_finds (suc n) life [] now w h = absurd h
  search_finds (suc n) life (t ∷ []) now w h =
      subst (λ r. Finds (then_do r (λ e. choose e
      (λ w. then_do ((upto c b n).block life t.condition now w) (after_condition c b (upto c b n) life t [] now))
      ((upto c b n).search life [] now))))
      (sym (always (upto c b n) (search_finds n) life now t w h.0 h.1))
      (taken (upto c b n) (search_finds n) life now t [] w h.2)
  search_finds (suc n) life (t ∷ u ∷ ts) now w h =
      then_finds (is_enabled t now w) _ (λ e w. chosen (upto c b n) (search_finds n) life now t u ts e w h.0 h.1)

-- ---- default lists of valid charts

-- a list that closes goes on where each junction that it leads to is good
closes_goes : (c : Chart) (good : ℕ → Type 0) (list : List Trans) → Closes list
    → ((j : ℕ) → LeadsTo (links_of c) list j → good j) → AlwaysGoes good list
closes_goes c good [] h leads = absurd h
closes_goes c good (t ∷ []) h leads = (h.0, h.1, into t.dest refl)
  where
    into : (d : Dest) → t.dest ≡ d → LeadsInto good d
    into (State s) e = tt
    into (Junction j) e = leads j (record { trans = t; within = (0, omega arith, refl); leads = e })
closes_goes c good (t ∷ u ∷ ts) h leads = (
  into t.dest refl,
  closes_goes c good (u ∷ ts) h (λ j l. leads j (record {
    trans = l.trans;
    within = (suc l.within.0, omega (arith, l.within.1), l.within.2);
    leads = l.leads;
  })),
)
  where
    into : (d : Dest) → t.dest ≡ d → LeadsInto good d
    into (State s) e = tt
    into (Junction j) e = leads j (record { trans = t; within = (0, omega arith, refl); leads = e })

-- in a valid chart a search of the default list of an OR finds a state, or is stopped
pub defaults_find : (c : Chart) → IsValid c → (b : Bounds) (n s : ℕ) → s < state_count c.tree → comp_of c.tree s ≡ Or
    → (life : Life) (now : Now) (w : World) → Finds ((upto c b n).search life (list_of c s Default) now w)
defaults_find c v b n s lt or life now w =
    let good : ℕ → Type 0 = Reached (links_of c) (list_of c s Default) in
    search_finds c b good
    (λ j r. closes_goes c good (junction c j) (v.structure.junctions s j lt r) (λ k l. Through j k r l))
    n life (list_of c s Default) now w
    (closes_goes c good (list_of c s Default) (v.structure.default s lt or) (λ j l. Directly j l))
