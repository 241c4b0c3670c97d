-- Exit: the children of an AND in reverse order, the active child of an OR, and then the state itself.
use Rattle.std.proofs.Common.{◌≡◌, ℕ, ◌+◌, ◌<◌, Bool, true, false, List, [], ◌∷◌, reverse, Option, Some, None, cond}
use Rattle.std.proofs.Common.{refl, subst, arith}
use Rattle.std.specs.List.{AllByRecursion, find}
use Rattle.flow_base.specs.declared.bounds.Bounds.{Bounds}
use Rattle.active_config.specs.declared.comp.Comp.{Comp}
use Rattle.active_config.specs.declared.comp.Comp.TheVariants.{Leaf, Or, And}
use Rattle.active_config.specs.Tree.{state_count, comp_of, children_of}
use Rattle.active_config.specs.Marks.{is_on, is_bare, active_child}
use Rattle.actions.specs.World.{World, Bare}
use Rattle.actions.specs.Work.{◌>>=◌, nothing, change, if_some, if_done, End, Done, Cut, Now}
use Rattle.actions.specs.Changes.{set_mark, clear_in}
use Rattle.actions.proofs.ChangeLemmas.{clear_done, clear_not}
use Rattle.checked_chart.specs.Chart.{Chart, node}
use Rattle.checked_chart.specs.Valid.{IsValid}
use Rattle.checked_chart.proofs.Trees.{IsChild, all_map, children_are}
use Rattle.sos_rules.specs.Parts.{Parts}
use Rattle.sos_rules.specs.Moves.{if_bare, exit_children, exit_rule, exit_each_rule}
use Rattle.sos_rules.specs.Rules.{rules}
use Rattle.sos_rules.proofs.MarkedStates.{all_reverse}
use Rattle.sos_rules.proofs.Keeps.{Keeps, Consistent, exit_children_finishes, consistent_closed}
use Rattle.code_language.specs.Code.{Procedures}
use Rattle.code_language.specs.Machine.{Program, Frame, machine, fresh}
use Rattle.code_language.specs.Reach.{Reaches, MeetsAim, returns, Any, HasAt}
use Rattle.code_language.proofs.Joins.{on_to, meets_on, meets_more, then_meets, then_meets_with, choose_meets}
use Rattle.code_language.proofs.Steps.{go_call, go_home, go_clear, go_skip, go_ret}
use Rattle.code_language.proofs.Tests.{yes_on, no_on, yes_on_home, no_on_home, yes_bare_home, no_bare_home}
use Rattle.chart_code.specs.Numbers.{Numbers}
use Rattle.chart_code.specs.StateProcedures.{active_code, each_code, leave_code}
use Rattle.chart_code.specs.Kinds.{running, Tells, DoesExit, DoesExitEach, AllDo, program}
use Rattle.chart_code.specs.Compiled.{Compiled}
use Rattle.chart_code.proofs.Pieces.{done, then_done, keeping}
use Rattle.chart_code.proofs.Validity.{exit_targets}

module _ (c : Chart) (b : Bounds) (k : Procedures) (N : Numbers) (valid : IsValid c) (K : Compiled c k N) (p : Parts)
    (keep : Keeps (Consistent c) p) (low : AllDo (program c b k) c N p) where
  -- the chart's code under these bounds
  abbrev C : Program
  C = program c b k

  -- ---- the active child of an OR

  module _ (now : Now) (q : ℕ) (tag : Option ℕ) (base home : ℕ) (fs : List Frame) where
    -- the frame at a place
    abbrev at : ℕ → Frame
    at i = running q i tag base home None

    -- the test of one child, and then those of the others
    active_if : (x : ℕ) (xs : List ℕ) (i : ℕ) (w : World) (r : ℕ) → HasAt k q i (active_code N.exit (x ∷ xs))
        → (0 < x) × (x < state_count c.tree) → Consistent c w
        → MeetsAim C (machine w now r (at (i + 1 + 2) ∷ fs)) (returns now fs Any)
        (if_some (find (λ x. is_on x w.marks) xs) nothing (λ x. p.exit x now) w)
        → (on : Bool) → is_on x w.marks ≡ on
        → MeetsAim C (machine w now r (at i ∷ fs)) (returns now fs Any)
        (if_some (cond on (Some x) (find (λ x. is_on x w.marks) xs)) nothing (λ x. p.exit x now) w)
    active_if x xs i w r h lt ok rest true e =
        meets_on (on_to (yes_on h.0 e) (go_call h.1.0)) (meets_more
        (low.exit.by x lt.0 lt.1 w ok now r None base home (at (i + 1 + 1) ∷ fs))
        (λ a v y. then_done 1 (go_ret h.1.1.0)))
    active_if x xs i w r h lt ok rest false e = meets_on (no_on h.0 e) rest

    -- the first active child of an OR is left
    active_runs : (xs : List ℕ) (i : ℕ) (w : World) (r : ℕ) → HasAt k q i (active_code N.exit xs)
        → AllByRecursion (λ x. (0 < x) × (x < state_count c.tree)) xs → Consistent c w
        → MeetsAim C (machine w now r (at i ∷ fs)) (returns now fs Any)
        (if_some (find (λ x. is_on x w.marks) xs) nothing (λ x. p.exit x now) w)
    active_runs [] i w r h all ok = done 1 (go_ret h.0)
    active_runs (x ∷ xs) i w r h all ok =
        let e : i + 1 + 1 + 1 ≡ i + 1 + 2 = omega arith in
        active_if x xs i w r h all.0 ok (active_runs xs (i + 1 + 2) w r
        (subst (λ n. HasAt k q n (active_code N.exit xs)) e h.1.1.1) all.1 ok) (is_on x w.marks) refl

  -- ---- the children of a state

  -- children are states below the root
  below_root : (s : ℕ) → AllByRecursion (λ x. (0 < x) × (x < state_count c.tree)) (children_of c.tree s)
  below_root s =
      all_map (IsChild c.tree s) (λ x. (0 < x) × (x < state_count c.tree)) (children_of c.tree s)
      (λ x i. (omega (arith, i.above), i.within)) (children_are c.tree valid.tree s)

  -- the children of a state are left, by how it is composed
  leave_by : (s : ℕ) (o : Comp) → HasAt k (N.leave s) 0 (leave_code N c.tree s o) → (w : World) → Consistent c w
      → (now : Now) (r : ℕ) (tag : Option ℕ) (base home : ℕ) (fs : List Frame)
      → MeetsAim C (machine w now r (fresh (N.leave s) tag base home None ∷ fs)) (returns now fs Any)
      (exit_children c p s now o w)
  unfolding active_child
  leave_by s Leaf h w ok now r tag base home fs = done 1 (go_ret h.0)
  leave_by s Or h w ok now r tag base home fs =
      active_runs now (N.leave s) tag base home fs (children_of c.tree s) 0 w r h (below_root s) ok
  leave_by s And h w ok now r tag base home fs =
      low.exit_each.by (reverse (children_of c.tree s)) (N.leave s) 0 h
      (all_reverse (λ x. (0 < x) × (x < state_count c.tree)) (children_of c.tree s)
      (below_root s)) w ok now r tag base home fs

  -- the children of a state are left
  pub leave_runs : (s : ℕ) → s < state_count c.tree → (w : World) → Consistent c w
      → (now : Now) (r : ℕ) (tag : Option ℕ) (base home : ℕ) (fs : List Frame)
      → MeetsAim C (machine w now r (fresh (N.leave s) tag base home None ∷ fs)) (returns now fs Any)
      (exit_children c p s now (comp_of c.tree s) w)
  leave_runs s lt w ok now r tag base home fs = leave_by s (comp_of c.tree s) (K.leave s lt) w ok now r tag base home fs

  -- ---- a state

  module _ (s : ℕ) (lt : s < state_count c.tree) (now : Now) (tag : Option ℕ) (base : ℕ) (fs : List Frame) where
    -- the frame of the procedure at a place, with the state as its home
    abbrev on_s : ℕ → Frame
    on_s i = running (N.exit s) i tag base s None

    -- after the exit action: where all of it was run, the state becomes inactive
    cleared : (a : End) (w : World) (r : ℕ) → Tells a (is_bare c.tree s w.marks)
        → MeetsAim C (machine w now r (on_s 9 ∷ fs)) (returns now fs Any)
        (if_done a tt (if_bare c.tree s (change (set_mark s false))) w)
    cleared Done w r e =
        let h = (K.exit s lt).1.1.1.1.1.1.1.1.1 in
        let way : Reaches C (machine w now r (on_s 9 ∷ fs)) (machine (clear_in c.tree s w) now 1 fs) =
        on_to (go_clear h.0) (go_ret h.1.0) in
        choose_meets (is_bare c.tree s w.marks) (change (set_mark s false)) nothing w
        (λ _. done 1 (subst (λ v. Reaches C (machine w now r (on_s 9 ∷ fs)) (machine v now 1 fs))
        (clear_done c.tree s w e) way)) (λ n. absurd (cc (e, n)))
    cleared Cut w r e =
        let h = (K.exit s lt).1.1.1.1.1.1.1.1.1 in
        let way : Reaches C (machine w now r (on_s 9 ∷ fs)) (machine (clear_in c.tree s w) now 1 fs) =
        on_to (go_clear h.0) (go_ret h.1.0) in
        done 1 (subst (λ v. Reaches C (machine w now r (on_s 9 ∷ fs)) (machine v now 1 fs))
        (clear_not c.tree s w e) way)

    -- after the children
    left : (w : World) (r : ℕ) → Consistent c w → MeetsAim C (machine w now r (on_s 5 ∷ fs)) (returns now fs Any)
        (if_bare c.tree s (p.block (Bare s) (node c s).exit now >>=
        (λ a. if_done a tt (if_bare c.tree s (change (set_mark s false))))) w)
    left w r ok =
        let h = (K.exit s lt).1.1.1.1.1 in
        choose_meets (is_bare c.tree s w.marks) (p.block (Bare s) (node c s).exit now >>=
        (λ a. if_done a tt (if_bare c.tree s (change (set_mark s false))))) nothing w
        (λ e. meets_on (on_to (yes_bare_home h.0 e) (on_to (go_skip h.1.0) (go_call h.1.1.1.0)))
        (then_meets (low.block.by (Bare s) (node c s).exit (N.exit_action s) 0 (K.exit_action s lt)
        (exit_targets c valid s) w ok e now r None base (on_s 9 ∷ fs)) (λ a v y. cleared a v y.number y.good)))
        (λ e. done 1 (on_to (no_bare_home h.0 e) (go_ret h.1.1.0)))

  -- a state is left
  exit_runs : (s : ℕ) → 0 < s → s < state_count c.tree → (w : World) → Consistent c w
      → (now : Now) (r : ℕ) (tag : Option ℕ) (base home : ℕ) (fs : List Frame)
      → MeetsAim C (machine w now r (fresh (N.exit s) tag base home None ∷ fs)) (returns now fs Any)
      (exit_rule c p s now w)
  exit_runs s pos lt w ok now r tag base home fs =
      let h = K.exit s lt in
      meets_on (go_home h.0) (choose_meets (is_on s w.marks) _ nothing w
      (λ e. meets_on (on_to (yes_on_home h.1.0 e) (on_to (go_skip h.1.1.0) (go_call h.1.1.1.1.0)))
      (then_meets_with (keeping (exit_children_finishes c valid.tree b (Consistent c)
      (consistent_closed c b) p keep s now (comp_of c.tree s) w ok))
      (leave_runs s lt w ok now r None base s (running (N.exit s) 5 tag base s None ∷ fs))
      (λ a v y ok'. left s lt now tag base fs v y.number ok')))
      (λ e. done 1 (on_to (no_on_home h.1.0 e) (go_ret h.1.1.1.0))))

  -- states are left one after another
  each_runs : (xs : List ℕ) (q i : ℕ) → HasAt k q i (each_code N.exit xs)
      → AllByRecursion (λ x. (0 < x) × (x < state_count c.tree)) xs
      → (w : World) → Consistent c w → (now : Now) (r : ℕ) (tag : Option ℕ) (base home : ℕ) (fs : List Frame)
      → MeetsAim C (machine w now r (running q i tag base home None ∷ fs)) (returns now fs Any)
      (exit_each_rule c p xs now w)
  each_runs [] q i h all w ok now r tag base home fs = done 1 (go_ret h.0)
  each_runs (x ∷ xs) q i h all w ok now r tag base home fs =
      meets_on (go_call h.0) (then_meets_with (keeping (keep.exit x now w all.0.0 ok))
      (low.exit.by x all.0.0 all.0.1 w ok now r None base home (running q (i + 1) tag base home None ∷ fs))
      (λ a v y ok'. low.exit_each.by xs q (i + 1) h.1 all.1 v ok' now y.number tag base home fs))

  -- the contract of leaving a state
  pub does_exit : DoesExit C N (rules c b p)
  does_exit = record { by = exit_runs }

  -- the contract of leaving states
  pub does_exit_each : DoesExitEach C N (rules c b p)
  does_exit_each = record { by = each_runs }
