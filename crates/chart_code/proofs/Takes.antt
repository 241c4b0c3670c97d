-- Firing: the active child is left, the noted actions run, and the way goes on to the destination; and default entry.
use Rattle.std.proofs.Common.{◌≡◌, ℕ, suc, ◌<◌, ◌+◌, Bool, true, false, cond, List, [], ◌∷◌, ◌++◌, length, Option, Some}
use Rattle.std.proofs.Common.{None, refl, sym, ap, ◌∙◌, subst, arith}
use Rattle.std.specs.Prelude.{nat_lt, if◌then◌else◌}
use Rattle.std.specs.List.{AllByRecursion, find}
use Rattle.std.proofs.lemmas.Bool.{lt-ltb, ltb-true}
use Rattle.std.proofs.lemmas.Bool.Decides.{nat_tests}
use Rattle.std.proofs.lemmas.List.{append-nil}
use Rattle.flow_base.specs.declared.bounds.Bounds.{Bounds}
use Rattle.active_config.specs.declared.comp.Comp.TheVariants.{Or}
use Rattle.active_config.specs.Tree.{state_count, comp_of}
use Rattle.active_config.specs.Marks.{is_bare, is_last}
use Rattle.active_config.proofs.PathLemmas.{is_at_or_below-same}
use Rattle.actions.specs.Exprs.{Stmt}
use Rattle.actions.specs.World.{World, Bare}
use Rattle.actions.specs.Work.{Work, ◌>>=◌, then_do, nothing, choose, if_some, if_done, End, Done, Cut, Now}
use Rattle.checked_chart.specs.Chart.{Chart, node, may_return}
use Rattle.checked_chart.specs.Valid.{IsValid}
use Rattle.checked_chart.specs.declared.parts.ListKind.TheVariants.{Default}
use Rattle.checked_chart.specs.Homes.{child_toward}
use Rattle.checked_chart.proofs.Trees.{IsChild, all_map}
use Rattle.sos_rules.specs.Parts.{Found, Fire, DeadEnd, No, Stop, Parts}
use Rattle.sos_rules.specs.Moves.{if_bare, exit_active, exit_children, enter_toward, after_default, default_search}
use Rattle.sos_rules.specs.Moves.{defaults_rule, take_rule}
use Rattle.sos_rules.specs.Rules.{rules}
use Rattle.sos_rules.proofs.MarkedStates.{may_return_are}
use Rattle.sos_rules.proofs.Keeps.{Keeps, Consistent, consistent_closed, exit_active_finishes}
use Rattle.code_language.specs.Code.{Procedures}
use Rattle.code_language.specs.Machine.{Program, Frame, machine, fresh, later}
use Rattle.code_language.specs.Reach.{Reaches, MeetsAim, returns, Any, pending, with_note, HasAt}
use Rattle.code_language.proofs.Joins.{on_to, meets_on, meets_more, then_meets_with, choose_meets}
use Rattle.code_language.proofs.Steps.{go_call, go_home, go_skip, go_ret, go_play_lame}
use Rattle.code_language.proofs.Tests.{yes_last, no_last, yes_bare_home, no_bare_home}
use Rattle.chart_code.specs.Numbers.{Numbers}
use Rattle.chart_code.specs.StateProcedures.{search_code, return_code}
use Rattle.chart_code.specs.Kinds.{running, aimed, IsPath, Tells, AreNotes, FoundFacts, found_at, DoesDefaults}
use Rattle.chart_code.specs.Kinds.{DoesTake, AllDo, program}
use Rattle.chart_code.specs.Compiled.{Compiled}
use Rattle.chart_code.proofs.Pieces.{done, then_done, keeping}
use Rattle.chart_code.proofs.Exits.{leave_runs}
use Rattle.chart_code.proofs.Enters.{toward_runs}

-- ---- notes

-- a new frame looks from above its base
later_zero : (n : ℕ) → later 0 (suc n) ≡ suc n
later_zero n = grind (arith, nat_tests)

-- the notes say nothing of the top frame but its note
pub pending_same : (i : ℕ) (f g : Frame) (fs : List Frame) → f.note ≡ g.note → pending i (f ∷ fs) ≡ pending i (g ∷ fs)
unfolding pending
pending_same i f g fs e = ap (λ n. if nat_lt (length fs) i then [] else pending i fs ++ with_note n []) e

-- a frame without a note adds none
over_if : (i : ℕ) (g : Frame) (fs : List Frame) (high : Bool) → nat_lt (length (g ∷ fs)) i ≡ high
    → (if high then [] else pending i (g ∷ fs) ++ []) ≡ pending i (g ∷ fs)
unfolding pending
over_if i g fs true e =
    let lt = ltb-true (length (g ∷ fs)) i e in sym (ap (λ t. if t then [] else pending i fs ++ with_note g.note [])
    (lt-ltb (length fs) i (omega arith)))
over_if i g fs false e = append-nil (pending i (g ∷ fs))

-- a frame without a note adds none
pub pending_over : (i : ℕ) (f g : Frame) (fs : List Frame) → f.note ≡ None → pending i (f ∷ g ∷ fs) ≡ pending i (g ∷ fs)
unfolding pending
pending_over i f g fs e =
    ap (λ n. if nat_lt (length (g ∷ fs)) i then [] else pending i (g ∷ fs) ++ with_note n []) e ∙ over_if i g fs
    (nat_lt (length (g ∷ fs)) i) refl

module _ (c : Chart) (b : Bounds) (k : Procedures) (N : Numbers) (valid : IsValid c) (K : Compiled c k N) (p : Parts)
    (keep : Keeps (Consistent c) p) (low : AllDo (program c b k) c N p) where
  -- the chart's code under these bounds
  abbrev C : Program
  C = program c b k

  -- ---- after the leaving of the active child

  module _ (s d : ℕ) (path : IsPath c.tree s d) (now : Now) (tag : Option ℕ) (base home : ℕ) (fs : List Frame) where
    -- the frame of the procedure at a place, with the state as its home
    abbrev on_s : ℕ → Frame
    on_s i = running (N.arrive s d) i tag base s None

    -- after `Play`: g is what the rules do then
    behind_play : (g : Work (Unit {0}))
        → ((w : World) (r cursor : ℕ) → Consistent c w → is_bare c.tree s w.marks ≡ true → MeetsAim C
        (machine w now r (aimed (on_s 5) cursor ∷ fs)) (returns now fs Any) (g w))
        → (a : End) (w : World) (r cursor : ℕ) → Consistent c w → Tells a (is_bare c.tree s w.marks)
        → MeetsAim C (machine w now r (aimed (on_s 2) cursor ∷ fs)) (returns now fs Any) (if_done a tt g w)
    behind_play g rest Done w r cursor ok e =
        let h = (K.arrive s d path).1.1 in meets_on (on_to (yes_bare_home h.0 e) (go_skip h.1.0)) (rest w r cursor ok e)
    behind_play g rest Cut w r cursor ok e =
        let h = (K.arrive s d path).1.1 in done 1 (on_to (no_bare_home h.0 e) (go_ret h.1.1.0))

    -- the notes run where the home is bare, and then g
    arrive_by : (g : Work (Unit {0}))
        → ((w : World) (r cursor : ℕ) → Consistent c w → is_bare c.tree s w.marks ≡ true → MeetsAim C
        (machine w now r (aimed (on_s 5) cursor ∷ fs)) (returns now fs Any) (g w))
        → (actions : List (List Stmt))
        → AreNotes c.tree k N (pending (suc base) (fresh (N.arrive s d) tag base home None ∷ fs)) actions
        → (w : World) (r : ℕ) → Consistent c w → is_bare c.tree s w.marks ≡ true
        → MeetsAim C (machine w now r (fresh (N.arrive s d) tag base home None ∷ fs)) (returns now fs Any)
        (then_do (p.play s actions now w) (λ a. if_done a tt g))
    arrive_by g rest actions notes w r ok bare =
        let h = K.arrive s d path in
        let e : pending (suc base) (fresh (N.arrive s d) tag base home None ∷ fs) ≡ pending (later 0 (suc base))
        (on_s 1 ∷ fs) =
        pending_same (suc base) (fresh (N.arrive s d) tag base home None) (on_s 1) fs refl ∙ ap
        (λ i. pending i (on_s 1 ∷ fs)) (sym (later_zero base)) in
        meets_on (go_home h.0) (then_meets_with (keeping (keep.play s actions now w ok))
        (low.play.by (on_s 1) fs h.1.0 path.state actions 0
        (subst (λ l. AreNotes c.tree k N l actions) e notes) w ok bare now r)
        (λ a v y ok'. behind_play g rest a v y.number y.cursor ok' y.good))

    -- where the home isn't bare, nothing is done
    arrive_not : (w : World) (r : ℕ) → is_bare c.tree s w.marks ≡ false
        → Reaches C (machine w now r (fresh (N.arrive s d) tag base home None ∷ fs)) (machine w now 1 fs)
    arrive_not w r e =
        let h = K.arrive s d path in
        on_to (go_home h.0) (on_to (go_play_lame h.1.0 e) (on_to (no_bare_home h.1.1.0 e) (go_ret h.1.1.1.1.0)))

  -- ---- a firing

  -- the home's work, once its child is left
  abbrev home_work : ℕ → ℕ → List (List Stmt) → Now → Work (Unit {0})
  home_work s d actions now = p.play s actions now >>= (λ a. if_done a tt (if_bare c.tree s (enter_toward c p s d now)))

  -- a firing, once the active child of its home is left
  arrive_runs : (s d : ℕ) → comp_of c.tree s ≡ Or → IsPath c.tree s d
      → (now : Now) (r : ℕ) (tag : Option ℕ) (base home : ℕ) (fs : List Frame)
      → (actions : List (List Stmt))
      → AreNotes c.tree k N (pending (suc base) (fresh (N.arrive s d) tag base home None ∷ fs)) actions → (w : World)
      → Consistent c w
      → MeetsAim C (machine w now r (fresh (N.arrive s d) tag base home None ∷ fs)) (returns now fs Any)
      (if_bare c.tree s (home_work s d actions now) w)
  arrive_runs s d is_or path now r tag base home fs actions notes w ok =
      choose_meets (is_bare c.tree s w.marks) (home_work s d actions now) nothing w
      (λ bare. arrive_by s d path now tag base home fs (if_bare c.tree s (enter_toward c p s d now))
      (λ v x cursor ok' bare'.
      choose_meets (is_bare c.tree s v.marks) (enter_toward c p s d now) nothing v
      (λ _. toward_runs c b k N valid K p keep low s d (N.arrive s d) 5
      (K.arrive s d path).1.1.1.1.1 path.state is_or v ok' bare' now x tag base s cursor fs)
      (λ n. absurd (cc (bare', n)))) actions notes w r ok bare)
      (λ n. done 1 (arrive_not s d path now tag base home fs w r n))

  -- the active child of an OR is left
  leave_or : (s : ℕ) → comp_of c.tree s ≡ Or → s < state_count c.tree → (w : World) → Consistent c w
      → (now : Now) (r : ℕ) (tag : Option ℕ) (base home : ℕ) (fs : List Frame)
      → MeetsAim C (machine w now r (fresh (N.leave s) tag base home None ∷ fs)) (returns now fs Any)
      (exit_active c p s now w)
  leave_or s is_or lt w ok now r tag base home fs =
      subst (λ o. MeetsAim C (machine w now r (fresh (N.leave s) tag base home None ∷ fs)) (returns now fs Any)
      (exit_children c p s now o w)) is_or (leave_runs c b k N valid K p keep low s lt w ok now r tag base home fs)

  -- a firing is taken
  take_runs : (s d : ℕ) → comp_of c.tree s ≡ Or → IsPath c.tree s d
      → (now : Now) (r : ℕ) (tag : Option ℕ) (base home : ℕ) (fs : List Frame)
      → (actions : List (List Stmt))
      → AreNotes c.tree k N (pending (suc base) (fresh (N.take s d) tag base home None ∷ fs)) actions → (w : World)
      → Consistent c w
      → MeetsAim C (machine w now r (fresh (N.take s d) tag base home None ∷ fs)) (returns now fs Any)
      (take_rule c p s d actions now w)
  take_runs s d is_or path now r tag base home fs actions notes w ok =
      let h = K.take s d path in
      let at2 = running (N.take s d) 2 tag base home None in
      let e : pending (suc base) (fresh (N.take s d) tag base home None ∷ fs) ≡ pending (suc base)
      (fresh (N.arrive s d) None base home None ∷ at2 ∷ fs) =
      pending_same (suc base) (fresh (N.take s d) tag base home None) at2 fs refl ∙ sym
      (pending_over (suc base) (fresh (N.arrive s d) None base home None) at2 fs refl) in
      meets_on (go_call h.0) (then_meets_with (keeping (exit_active_finishes c valid.tree b (Consistent c)
      (consistent_closed c b) p keep s now w ok))
      (leave_or s is_or path.state w ok now r None base home (running (N.take s d) 1 tag base home None ∷ fs))
      (λ a v y ok'. meets_on (go_call h.1.0) (meets_more (arrive_runs s d is_or path now y.number None base home
      (at2 ∷ fs) actions (subst (λ l. AreNotes c.tree k N l actions) e notes) v ok') (λ _ u z. then_done 1
      (go_ret h.1.1.0)))))

  -- the contract of a firing
  pub does_take : DoesTake C N (rules c b p)
  does_take = record { by = take_runs }

  -- ---- default entry

  module _ (s : ℕ) (lt : s < state_count c.tree) (now : Now) (tag : Option ℕ) (base : ℕ) (fs : List Frame) where
    -- the frame of the procedure at a place
    abbrev at : ℕ → Frame
    at i = running (N.defaults s) i tag base s None

    -- the default search, which stands at place i
    module _ (i : ℕ) (h : HasAt k (N.defaults s) i (search_code N s)) where
      -- after the search of the default list
      defaulted : (f : Found) (w : World) → Consistent c w → (y : FoundFacts C N s Default now (at (i + 1) ∷ fs) f w)
          → MeetsAim C (found_at C N s Default now (at (i + 1) ∷ fs) f w y) (returns now fs Any)
          (after_default c p s now f w)
      defaulted No w ok y = done 1 (go_ret h.1.0)
      defaulted Stop w ok y = done 1 (go_ret h.1.0)
      defaulted DeadEnd w ok y = absurd y
      defaulted (Fire d actions) w ok y =
          let path = y.leads.path in
          meets_more (arrive_by s d path now y.tag y.base s y.below
          (if_some (child_toward c.tree s d) nothing (λ x. p.enter x d now)) (λ v x cursor ok' bare'.
          subst (λ t. MeetsAim C (machine v now x (aimed (running (N.arrive s d) 5 y.tag y.base s None) cursor ∷ y.below))
          (returns now y.below Any) (choose t (p.defaults s now)
          (if_some (child_toward c.tree s d) nothing (λ x. p.enter x d now)) v)) y.leads.below
          (toward_runs c b k N valid K p keep low s d (N.arrive s d) 5 (K.arrive s d path).1.1.1.1.1 path.state
          y.leads.home v ok' bare' now x y.tag y.base s cursor y.below)) actions y.notes w y.result ok y.alive)
          (λ a v z. then_done 1 (on_to (y.back v z.number) (go_ret h.1.0)))

      -- the default list is searched
      search_runs : (w : World) → Consistent c w → is_bare c.tree s w.marks ≡ true → (r : ℕ)
          → MeetsAim C (machine w now r (at i ∷ fs)) (returns now fs Any) (default_search c p s now w)
      search_runs w ok bare r =
          meets_on (go_call h.0) (then_meets_with (keeping (keep.search (Bare s) (node c s).default now w ok))
          (low.search.by s Default lt w ok bare now r None base (at (i + 1) ∷ fs)) (λ f v y ok'. defaulted f v ok' y))

    -- the tests of the remembered child, and the search after them
    return_if : (x : ℕ) (xs : List ℕ) (i : ℕ) (w : World) (r : ℕ)
        → HasAt k (N.defaults s) i (return_code N (x ∷ xs) (search_code N s)) → x < state_count c.tree → Consistent c w
        → MeetsAim C (machine w now r (at (i + 1 + 2) ∷ fs)) (returns now fs Any)
        (if_some (find (λ x. is_last c.tree x w.marks) xs) (default_search c p s now) (λ x. p.enter x x now) w)
        → (last : Bool) → is_last c.tree x w.marks ≡ last
        → MeetsAim C (machine w now r (at i ∷ fs)) (returns now fs Any)
        (if_some (cond last (Some x) (find (λ x. is_last c.tree x w.marks) xs)) (default_search c p s now)
        (λ x. p.enter x x now) w)
    return_if x xs i w r h within ok rest true e =
        meets_on (on_to (yes_last h.0 e) (go_call h.1.0)) (meets_more
        (low.enter.by x x (record { state = within; below = is_at_or_below-same c.tree x x refl }) w ok now r None base
        s (at (i + 1 + 1) ∷ fs)) (λ a v y. then_done 1 (go_ret h.1.1.0)))
    return_if x xs i w r h within ok rest false e = meets_on (no_last h.0 e) rest

    -- a remembered child is entered, or the default list is searched
    return_runs : (xs : List ℕ) (i : ℕ) (w : World) (r : ℕ)
        → HasAt k (N.defaults s) i (return_code N xs (search_code N s))
        → AllByRecursion (λ x. x < state_count c.tree) xs → Consistent c w → is_bare c.tree s w.marks ≡ true
        → MeetsAim C (machine w now r (at i ∷ fs)) (returns now fs Any)
        (if_some (find (λ x. is_last c.tree x w.marks) xs) (default_search c p s now) (λ x. p.enter x x now) w)
    return_runs [] i w r h all ok bare = search_runs i h w ok bare r
    return_runs (x ∷ xs) i w r h all ok bare =
        let e : i + 1 + 1 + 1 ≡ i + 1 + 2 = omega arith in
        return_if x xs i w r h all.0 ok (return_runs xs (i + 1 + 2) w r
        (subst (λ n. HasAt k (N.defaults s) n (return_code N xs (search_code N s))) e h.1.1.1) all.1 ok bare)
        (is_last c.tree x w.marks) refl

  -- an OR is entered by default
  defaults_run : (s : ℕ) → s < state_count c.tree → comp_of c.tree s ≡ Or → (w : World) → Consistent c w
      → is_bare c.tree s w.marks ≡ true
      → (now : Now) (r : ℕ) (tag : Option ℕ) (base home : ℕ) (fs : List Frame)
      → MeetsAim C (machine w now r (fresh (N.defaults s) tag base home None ∷ fs)) (returns now fs Any)
      (defaults_rule c p s now w)
  defaults_run s lt is_or w ok bare now r tag base home fs =
      let h = K.defaults s lt in
      let within = all_map (IsChild c.tree s) (λ x. x < state_count c.tree) (may_return c s) (λ x i. i.within)
      (may_return_are c valid.tree s) in
      meets_on (go_home h.0) (return_runs s lt now tag base fs (may_return c s) 1 w r h.1 within ok bare)

  -- the contract of default entry
  pub does_defaults : DoesDefaults C N (rules c b p)
  does_defaults = record { by = defaults_run }
