-- Enter: a state along a path, the children of an AND in order, and the way on into a child of an OR.
use Rattle.std.proofs.Common.{◌≡◌, ℕ, ◌+◌, ◌<◌, Bool, true, false, not, ◌&&◌, List, [], ◌∷◌, Option, Some, None, refl}
use Rattle.std.proofs.Common.{sym, ap, ◌∙◌, subst}
use Rattle.std.specs.Prelude.{◌==◌, if◌then◌else◌}
use Rattle.std.specs.List.{AllByRecursion}
use Rattle.flow_base.specs.declared.bounds.Bounds.{Bounds}
use Rattle.active_config.specs.declared.comp.Comp.{Comp}
use Rattle.active_config.specs.declared.comp.Comp.TheVariants.{Leaf, Or, And}
use Rattle.active_config.specs.Tree.{Tree, state_count, parent_of, comp_of, children_of, is_at_or_below}
use Rattle.active_config.specs.Marks.{Configuration, is_on, is_bare, can_mark, takes_child, parent_takes_child}
use Rattle.active_config.proofs.PathLemmas.{is_at_or_below-same}
use Rattle.active_config.proofs.MarksLemmas.{can_mark_off}
use Rattle.actions.specs.World.{World, Bare}
use Rattle.actions.specs.Work.{Work, ◌>>=◌, ◌>>◌, nothing, change, choose, if_some, if_done, End, Done, Cut, Now}
use Rattle.actions.specs.Changes.{set_mark, keep_in}
use Rattle.actions.proofs.ChangeLemmas.{mark_done}
use Rattle.checked_chart.specs.Chart.{Chart, node, is_remembered}
use Rattle.checked_chart.specs.Valid.{IsValid}
use Rattle.checked_chart.specs.Homes.{child_toward, path_in}
use Rattle.checked_chart.proofs.Trees.{IsChild, all_map, children_are, toward_is_child}
use Rattle.sos_rules.specs.Parts.{Parts}
use Rattle.sos_rules.specs.Moves.{keep_if, entered_in, enter_toward, enter_inside, enter_rule, enter_each_rule}
use Rattle.sos_rules.specs.Rules.{rules}
use Rattle.sos_rules.proofs.MarkedStates.{entered_bare, marked_bare, entered_consistent, can_mark_root}
use Rattle.sos_rules.proofs.Keeps.{Keeps, Consistent}
use Rattle.code_language.specs.Code.{Procedures, fetch}
use Rattle.code_language.specs.Machine.{Program, Frame, machine, fresh, next, past}
use Rattle.code_language.specs.Instrs as instrs
use Rattle.code_language.specs.Reach.{Reaches, MeetsAim, returns, Any, HasAt}
use Rattle.code_language.proofs.Joins.{on_to, meets_on, meets_more, then_meets_with, choose_meets}
use Rattle.code_language.proofs.Steps.{go_call, go_home, go_mark, go_keep, go_skip, go_ret}
use Rattle.code_language.proofs.Tests.{yes_on, no_on, yes_bare, no_bare, yes_on_home, no_on_home, yes_bare_home}
use Rattle.code_language.proofs.Tests.{no_bare_home}
use Rattle.chart_code.specs.Numbers.{Numbers}
use Rattle.chart_code.specs.StateProcedures.{toward_code, enters_code, takes_test, parent_test, inside_code}
use Rattle.chart_code.specs.StateProcedures.{keep_code, active_entry_code, entry_code}
use Rattle.chart_code.specs.Kinds.{running, aimed, IsPath, Tells, DoesEnter, DoesEnterEach, AllDo, program}
use Rattle.chart_code.specs.Compiled.{Compiled}
use Rattle.chart_code.proofs.Pieces.{done, then_done, keeping}
use Rattle.chart_code.proofs.Validity.{entry_targets}

-- the path in a child of an AND
pub path_at : (t : Tree) (x d : ℕ) (on : Bool) → is_at_or_below t d x ≡ on → x < state_count t
    → IsPath t x (if on then d else x)
path_at t x d true e lt = record { state = lt; below = e }
path_at t x d false e lt = record { state = lt; below = is_at_or_below-same t x x refl }

-- whether a state that is off can be marked is what its parent says
can_mark_takes : (t : Tree) (s q : ℕ) (m : Configuration) → is_on s m ≡ false → parent_of t s ≡ Some q
    → can_mark t s m ≡ takes_child t q (comp_of t q) m
unfolding can_mark
can_mark_takes t s q m off up =
    ap (λ x. not x && parent_takes_child t (parent_of t s) m) off ∙ ap (λ o. parent_takes_child t o m) up

-- the code's test of a parent
module _ {C : Program} {w : World} {now : Now} {r : ℕ} {f : Frame} {fs : List Frame} {k : ℕ} where
  -- a parent that takes a child passes its test
  yes_takes : (q : ℕ) (o : Comp) → fetch C.procedures f.proc f.place ≡ Some (instrs.Unless k (takes_test q o))
      → takes_child C.tree q o w.marks ≡ true → Reaches C (machine w now r (f ∷ fs)) (machine w now r (next f ∷ fs))
  yes_takes q Leaf h e = yes_on h e
  yes_takes q Or h e = yes_bare h e
  yes_takes q And h e = yes_on h e

  -- one that doesn't take it fails
  no_takes : (q : ℕ) (o : Comp) → fetch C.procedures f.proc f.place ≡ Some (instrs.Unless k (takes_test q o))
      → takes_child C.tree q o w.marks ≡ false → Reaches C (machine w now r (f ∷ fs)) (machine w now r (past f k ∷ fs))
  no_takes q Leaf h e = no_on h e
  no_takes q Or h e = no_bare h e
  no_takes q And h e = no_on h e

module _ (c : Chart) (b : Bounds) (k : Procedures) (N : Numbers) (valid : IsValid c) (K : Compiled c k N) (p : Parts)
    (keep : Keeps (Consistent c) p) (low : AllDo (program c b k) c N p) where
  -- the chart's code under these bounds
  abbrev C : Program
  C = program c b k

  -- ---- into a child of an OR

  -- on the path, by whether it ends here and by the child towards its end
  toward_by : (s d q i : ℕ) (same : Bool) (o : Option ℕ) → child_toward c.tree s d ≡ o
      → HasAt k q i (toward_code N s d same o) → s < state_count c.tree → comp_of c.tree s ≡ Or
      → (w : World) → Consistent c w → is_bare c.tree s w.marks ≡ true
      → (now : Now) (r : ℕ) (tag : Option ℕ) (base home cursor : ℕ) (fs : List Frame)
      → MeetsAim C (machine w now r (aimed (running q i tag base home None) cursor ∷ fs)) (returns now fs Any)
      (choose same (p.defaults s now) (if_some o nothing (λ x. p.enter x d now)) w)
  toward_by s d q i true o way h lt is_or w ok bare now r tag base home cursor fs =
      meets_on (go_call h.0) (meets_more (low.defaults.by s lt is_or w ok bare now r None base home
      (aimed (running q (i + 1) tag base home None) cursor ∷ fs)) (λ a v y. then_done 1 (go_ret h.1.0)))
  toward_by s d q i false None way h lt is_or w ok bare now r tag base home cursor fs = done 1 (go_ret h.0)
  toward_by s d q i false (Some x) way h lt is_or w ok bare now r tag base home cursor fs =
      let child = toward_is_child c.tree valid.tree s d x way in
      meets_on (go_call h.0) (meets_more (low.enter.by x d
      (record { state = child.1.within; below = child.0 }) w ok now r None base home
      (aimed (running q (i + 1) tag base home None) cursor ∷ fs)) (λ a v y. then_done 1 (go_ret h.1.0)))

  -- along the path from s to d, in a frame with whatever cursor
  pub toward_runs : (s d q i : ℕ) → HasAt k q i (toward_code N s d (s == d) (child_toward c.tree s d))
      → s < state_count c.tree → comp_of c.tree s ≡ Or
      → (w : World) → Consistent c w → is_bare c.tree s w.marks ≡ true
      → (now : Now) (r : ℕ) (tag : Option ℕ) (base home cursor : ℕ) (fs : List Frame)
      → MeetsAim C (machine w now r (aimed (running q i tag base home None) cursor ∷ fs)) (returns now fs Any)
      (enter_toward c p s d now w)
  toward_runs s d q i h lt is_or w ok bare now r tag base home cursor fs =
      toward_by s d q i (s == d) (child_toward c.tree s d) refl h lt is_or w ok bare now r tag base home cursor fs

  -- ---- a state

  -- the paths in the children of an AND
  child_paths : (s d : ℕ) → AllByRecursion (λ x. IsPath c.tree x (path_in c.tree x d)) (children_of c.tree s)
  child_paths s d =
      all_map (IsChild c.tree s) (λ x. IsPath c.tree x (path_in c.tree x d)) (children_of c.tree s)
      (λ x i. path_at c.tree x d (is_at_or_below c.tree d x) refl i.within) (children_are c.tree valid.tree s)

  -- what is inside a state is entered, by how it is composed
  inside_by : (s d q i : ℕ) (o : Comp) → comp_of c.tree s ≡ o → HasAt k q i (inside_code N c.tree s d o)
      → s < state_count c.tree
      → (w : World) → Consistent c w → is_bare c.tree s w.marks ≡ true
      → (now : Now) (r : ℕ) (tag : Option ℕ) (base home : ℕ) (fs : List Frame)
      → MeetsAim C (machine w now r (running q i tag base home None ∷ fs)) (returns now fs Any)
      (enter_inside c p s d now o w)
  inside_by s d q i Leaf is h lt w ok bare now r tag base home fs = done 1 (go_ret h.0)
  inside_by s d q i Or is h lt w ok bare now r tag base home fs =
      toward_runs s d q i h lt is w ok bare now r tag base home 0 fs
  inside_by s d q i And is h lt w ok bare now r tag base home fs =
      low.enter_each.by (children_of c.tree s) d q i h (child_paths s d) w ok now r tag base home fs

  module _ (s d : ℕ) (path : IsPath c.tree s d) (now : Now) (tag : Option ℕ) (base : ℕ) (fs : List Frame) where
    -- the frame of the procedure at a place, with the state as its home
    abbrev on_s : ℕ → Frame
    on_s i = running (N.enter s d) i tag base s None

    -- the work from the entry action on
    abbrev active_work : Work (Unit {0})
    active_work =
        p.block (Bare s) (node c s).entry now >>= (λ a. if_done a tt (enter_inside c p s d now (comp_of c.tree s)))

    -- the work from the mark on
    abbrev entry_work : Work (Unit {0})
    entry_work = change (entered_in c s) >> active_work

    -- after the entry action
    entered : (i : ℕ) → HasAt k (N.enter s d) i (active_entry_code N c.tree s d) → (a : End) (w : World) (r : ℕ)
        → Consistent c w → Tells a (is_bare c.tree s w.marks)
        → MeetsAim C (machine w now r (on_s (i + 1) ∷ fs)) (returns now fs Any)
        (if_done a tt (enter_inside c p s d now (comp_of c.tree s)) w)
    entered i h Done w r ok e =
        meets_on (on_to (yes_bare_home h.1.0 e) (go_skip h.1.1.0))
        (inside_by s d (N.enter s d) (i + 1 + 1 + 1 + 1) (comp_of c.tree s) refl h.1.1.1.1 path.state w ok e now r tag
        base s fs)
    entered i h Cut w r ok e = done 1 (on_to (no_bare_home h.1.0 e) (go_ret h.1.1.1.0))

    -- the entry action, and what is inside
    active_runs : (i : ℕ) → HasAt k (N.enter s d) i (active_entry_code N c.tree s d) → (w : World) (r : ℕ)
        → Consistent c w → is_bare c.tree s w.marks ≡ true
        → MeetsAim C (machine w now r (on_s i ∷ fs)) (returns now fs Any) (active_work w)
    active_runs i h w r ok bare =
        meets_on (go_call h.0) (then_meets_with (keeping (keep.block (Bare s) (node c s).entry now w ok))
        (low.block.by (Bare s) (node c s).entry (N.entry s) 0 (K.entry s path.state)
        (entry_targets c valid s) w ok bare now r None base (on_s (i + 1) ∷ fs))
        (λ a u y ok''. entered i h a u y.number ok'' y.good))

    -- after the mark
    kept : (i : ℕ) (h : Bool) → HasAt k (N.enter s d) i (keep_code h s (active_entry_code N c.tree s d))
        → (w : World) (r : ℕ) → Consistent c (keep_if h c.tree s w)
        → is_bare c.tree s (keep_if h c.tree s w).marks ≡ true
        → MeetsAim C (machine w now r (on_s i ∷ fs)) (returns now fs Any) (active_work (keep_if h c.tree s w))
    kept i true h w r ok bare = meets_on (go_keep h.0) (active_runs (i + 1) h.1 (keep_in c.tree s w) r ok bare)
    kept i false h w r ok bare = active_runs i h w r ok bare

    -- a state that can be marked is marked, and a parent with history remembers it
    marked_runs : (i : ℕ) → HasAt k (N.enter s d) i (entry_code N c.tree s d (is_remembered c s)) → (w : World) (r : ℕ)
        → Consistent c w → can_mark c.tree s w.marks ≡ true
        → MeetsAim C (machine w now r (on_s i ∷ fs)) (returns now fs Any) (entry_work w)
    unfolding entered_in
    marked_runs i h w r ok can =
        let way : Reaches C (machine w now r (on_s i ∷ fs)) (machine (set_mark s true w) now r (on_s (i + 1) ∷ fs)) =
        subst (λ u. Reaches C (machine w now r (on_s i ∷ fs)) (machine u now r (on_s (i + 1) ∷ fs)))
        (mark_done c.tree s w can) (go_mark h.0) in
        let bare = entered_bare c s s w ∙ marked_bare c.tree valid.tree s w.marks path.state ok can in
        meets_on way (kept (i + 1) (is_remembered c s) h.1 (set_mark s true w) r (entered_consistent c s w can ok) bare)

    -- the test of the parent, of a state that is off
    tested : (o : Option ℕ) → parent_of c.tree s ≡ o
        → HasAt k (N.enter s d) 3 (parent_test c.tree o (entry_code N c.tree s d (is_remembered c s)))
        → (w : World) (r : ℕ) → Consistent c w → is_on s w.marks ≡ false
        → MeetsAim C (machine w now r (on_s 3 ∷ fs)) (returns now fs Any)
        (choose (can_mark c.tree s w.marks) entry_work nothing w)
    tested None up h w r ok off =
        choose_meets (can_mark c.tree s w.marks) entry_work nothing w (λ can. marked_runs 3 h w r ok can)
        (λ cannot. absurd (let can = can_mark_root c.tree s w.marks off up in cc))
    tested (Some q) up h w r ok off =
        choose_meets (can_mark c.tree s w.marks) entry_work nothing w
        (λ can. meets_on (on_to (yes_takes q (comp_of c.tree q) h.0
        (sym (can_mark_takes c.tree s q w.marks off up) ∙ can)) (go_skip h.1.0)) (marked_runs 6 h.1.1.1 w r ok can))
        (λ cannot. done 1 (on_to (no_takes q (comp_of c.tree q) h.0
        (sym (can_mark_takes c.tree s q w.marks off up) ∙ cannot)) (go_ret h.1.1.0)))

    -- a state that is on is passed over
    off_or_on : (w : World) (r : ℕ) → Consistent c w → (on : Bool) → is_on s w.marks ≡ on
        → MeetsAim C (machine w now r (on_s 1 ∷ fs)) (returns now fs Any)
        (choose (can_mark c.tree s w.marks) entry_work nothing w)
    off_or_on w r ok true e =
        let h = K.enter s d path in
        choose_meets (can_mark c.tree s w.marks) entry_work nothing w
        (λ can. absurd (let off = can_mark_off c.tree s w.marks can in cc))
        (λ cannot. done 1 (on_to (yes_on_home h.1.0 e) (go_ret h.1.1.0)))
    off_or_on w r ok false e =
        let h = K.enter s d path in meets_on (no_on_home h.1.0 e) (tested (parent_of c.tree s) refl h.1.1.1 w r ok e)

  -- a state is entered
  enter_runs : (s d : ℕ) → IsPath c.tree s d → (w : World) → Consistent c w
      → (now : Now) (r : ℕ) (tag : Option ℕ) (base home : ℕ) (fs : List Frame)
      → MeetsAim C (machine w now r (fresh (N.enter s d) tag base home None ∷ fs)) (returns now fs Any)
      (enter_rule c p s d now w)
  enter_runs s d path w ok now r tag base home fs =
      meets_on (go_home (K.enter s d path).0) (off_or_on s d path now tag base fs w r ok (is_on s w.marks) refl)

  -- the children of an AND are entered one after another
  each_runs : (xs : List ℕ) (d q i : ℕ) → HasAt k q i (enters_code N c.tree d xs)
      → AllByRecursion (λ x. IsPath c.tree x (path_in c.tree x d)) xs
      → (w : World) → Consistent c w → (now : Now) (r : ℕ) (tag : Option ℕ) (base home : ℕ) (fs : List Frame)
      → MeetsAim C (machine w now r (running q i tag base home None ∷ fs)) (returns now fs Any)
      (enter_each_rule c p xs d now w)
  each_runs [] d q i h all w ok now r tag base home fs = done 1 (go_ret h.0)
  each_runs (x ∷ xs) d q i h all w ok now r tag base home fs =
      meets_on (go_call h.0) (then_meets_with (keeping (keep.enter x (path_in c.tree x d) now w ok))
      (low.enter.by x (path_in c.tree x d) all.0 w ok now r None base home (running q (i + 1) tag base home None ∷ fs))
      (λ a v y ok'. low.enter_each.by xs d q (i + 1) h.1 all.1 v ok' now y.number tag base home fs))

  -- the contract of entering a state
  pub does_enter : DoesEnter C N (rules c b p)
  does_enter = record { by = enter_runs }

  -- the contract of entering regions
  pub does_enter_each : DoesEnterEach C N (rules c b p)
  does_enter_each = record { by = each_runs }
