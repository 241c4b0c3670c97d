-- Process: the outer list, the during action, the inner list, and the children, with results that are passed on.
use Rattle.std.proofs.Common.{◌≡◌, ℕ, suc, ◌+◌, ◌<◌, Bool, true, false, List, [], ◌∷◌, Option, Some, None, cond, refl}
use Rattle.std.proofs.Common.{sym, ◌∙◌, subst, arith}
use Rattle.std.specs.Prelude.{◌==◌}
use Rattle.std.specs.List.{AllByRecursion, find}
use Rattle.std.proofs.lemmas.Bool.Decides.{nat_tests}
use Rattle.flow_base.specs.declared.bounds.Bounds.{Bounds}
use Rattle.active_config.specs.declared.comp.Comp.{Comp}
use Rattle.active_config.specs.declared.comp.Comp.TheVariants.{Leaf, Or, And}
use Rattle.active_config.specs.Tree.{state_count, comp_of, children_of}
use Rattle.active_config.specs.Marks.{is_on, active_child}
use Rattle.actions.specs.declared.event.Event.{Event}
use Rattle.actions.specs.World.{World, On}
use Rattle.actions.specs.Work.{◌>>=◌, give, if_some, if_done, End, Done, Cut, Now}
use Rattle.checked_chart.specs.Chart.{Chart, node}
use Rattle.checked_chart.specs.Valid.{IsValid}
use Rattle.checked_chart.specs.declared.parts.ListKind.TheVariants.{Outer, Inner}
use Rattle.checked_chart.specs.Homes.{home_of}
use Rattle.checked_chart.proofs.Trees.{IsChild, all_map, children_are}
use Rattle.sos_rules.specs.Parts.{Found, Fire, DeadEnd, No, Stop, Went, Stay, Out, Parts}
use Rattle.sos_rules.specs.Processing.{from_child, process_children, after_inner, go_on_inside, after_outer}
use Rattle.sos_rules.specs.Processing.{process_rule, after_region, process_each_rule}
use Rattle.sos_rules.specs.Rules.{rules}
use Rattle.sos_rules.proofs.Keeps.{Keeps, Consistent}
use Rattle.code_language.specs.Code.{Procedures}
use Rattle.code_language.specs.Machine.{Program, Frame, machine, fresh}
use Rattle.code_language.specs.Reach.{Reaches, Aim, MeetsAim, leaves, HasAt}
use Rattle.code_language.proofs.Joins.{on_to, meets_on, meets_end, then_meets, then_meets_with, choose_meets}
use Rattle.code_language.proofs.Steps.{go_call, go_home, go_skip, go_ret, go_pass, go_pass_zero}
use Rattle.code_language.proofs.Tests.{yes_on, no_on, yes_on_home, no_on_home, yes_result, no_result}
use Rattle.chart_code.specs.Numbers.{Numbers}
use Rattle.chart_code.specs.StateProcedures.{went_result, active_child_code, regions_code, children_code}
use Rattle.chart_code.specs.Kinds.{running, Tells, FoundFacts, found_at, DoesProcess, DoesProcessEach, AllDo}
use Rattle.chart_code.specs.Kinds.{program}
use Rattle.chart_code.specs.Compiled.{Compiled}
use Rattle.chart_code.proofs.Pieces.{keeping}
use Rattle.chart_code.proofs.Validity.{during_targets}

-- the results of two firings that lead out are the same where their homes are
out_out : (x s : ℕ) → (suc (suc (suc x)) == suc (suc (suc s))) ≡ (x == s)
out_out x s = grind (arith, nat_tests)

-- the result of a firing that leads out isn't 1
out_stay : (x : ℕ) → (suc (suc (suc x)) == 1) ≡ false
out_stay x = grind (arith, nat_tests)

-- nor 2
out_end : (x : ℕ) → (suc (suc (suc x)) == 2) ≡ false
out_end x = grind (arith, nat_tests)

-- and 1 isn't the result of one
stay_out : (s : ℕ) → (1 == suc (suc (suc s))) ≡ false
stay_out s = grind (arith, nat_tests)

module _ (c : Chart) (b : Bounds) (k : Procedures) (N : Numbers) (valid : IsValid c) (K : Compiled c k N) (p : Parts)
    (keep : Keeps (Consistent c) p) (low : AllDo (program c b k) c N p) where
  -- the chart's code under these bounds
  abbrev C : Program
  C = program c b k

  -- the result says the answer
  abbrev Says : Went → World → ℕ → Type 0
  Says a w x = x ≡ went_result a

  module _ (now : Now) (q : ℕ) (tag : Option ℕ) (base home : ℕ) (saved : Option Event) (fs : List Frame) where
    -- the frame at a place
    abbrev at : ℕ → Frame
    at i = running q i tag base home saved

    -- its frame returns with the answer
    abbrev ReturnAim : Aim Went
    ReturnAim = leaves saved now fs Says

    -- ---- the active child of an OR

    -- after the call of a child of s: a firing with s as its home ends there
    out_of : (i s x : ℕ) (xs : List ℕ) → HasAt k q i (active_child_code N s (x ∷ xs)) → (a : Went) (w : World)
        → MeetsAim C (machine w now (went_result a) (at (i + 1 + 1) ∷ fs)) ReturnAim (from_child s a w)
    out_of i s x xs h Stay w =
        meets_end (record { number = 1; good = refl }) (on_to (no_result h.1.1.0 (stay_out s)) (go_pass h.1.1.1.1.0))
    out_of i s x xs h (Out d) w =
        choose_meets (d == s) (give Stay) (give (Out d)) w
        (λ e. meets_end (record { number = 1; good = refl })
        (on_to (yes_result h.1.1.0 (out_out d s ∙ e)) (go_ret h.1.1.1.0)))
        (λ e. meets_end (record { number = suc (suc (suc d)); good = refl })
        (on_to (no_result h.1.1.0 (out_out d s ∙ e)) (go_pass h.1.1.1.1.0)))

    -- the test of one child, and then those of the others
    active_if : (s x : ℕ) (xs : List ℕ) (i : ℕ) (w : World) (r : ℕ) → HasAt k q i (active_child_code N s (x ∷ xs))
        → x < state_count c.tree → Consistent c w
        → MeetsAim C (machine w now r (at (i + 1 + 4) ∷ fs)) ReturnAim
        (if_some (find (λ x. is_on x w.marks) xs) (give Stay) (λ x. p.process x now >>= from_child s) w)
        → (on : Bool) → is_on x w.marks ≡ on
        → MeetsAim C (machine w now r (at i ∷ fs)) ReturnAim
        (if_some (cond on (Some x) (find (λ x. is_on x w.marks) xs)) (give Stay) (λ x. p.process x now >>= from_child s)
        w)
    active_if s x xs i w r h lt ok rest true e =
        meets_on (on_to (yes_on h.0 e) (go_call h.1.0)) (then_meets
        (low.process.by x lt w ok e now r None base home None (at (i + 1 + 1) ∷ fs))
        (λ a v y. subst (λ n. MeetsAim C (machine v now n (at (i + 1 + 1) ∷ fs)) ReturnAim (from_child s a v)) (sym y.good)
        (out_of i s x xs h a v)))
    active_if s x xs i w r h lt ok rest false e = meets_on (no_on h.0 e) rest

    -- the first active child of an OR is processed
    active_runs : (s : ℕ) (xs : List ℕ) (i : ℕ) (w : World) (r : ℕ) → HasAt k q i (active_child_code N s xs)
        → AllByRecursion (λ x. x < state_count c.tree) xs → Consistent c w
        → MeetsAim C (machine w now r (at i ∷ fs)) ReturnAim
        (if_some (find (λ x. is_on x w.marks) xs) (give Stay) (λ x. p.process x now >>= from_child s) w)
    active_runs s [] i w r h all ok = meets_end (record { number = 1; good = refl }) (go_ret h.0)
    active_runs s (x ∷ xs) i w r h all ok =
        let e : i + 1 + 1 + 1 + 1 + 1 ≡ i + 1 + 4 = omega arith in
        active_if s x xs i w r h all.0 ok (active_runs s xs (i + 1 + 4) w r
        (subst (λ n. HasAt k q n (active_child_code N s xs)) e h.1.1.1.1.1) all.1 ok) (is_on x w.marks) refl

    -- ---- the children of an AND

    -- after the call of a region
    region_went : (i x : ℕ) (xs : List ℕ) → HasAt k q i (regions_code N (x ∷ xs))
        → AllByRecursion (λ x. x < state_count c.tree) xs → (a : Went) (w : World) → Consistent c w
        → MeetsAim C (machine w now (went_result a) (at (i + 1 + 1) ∷ fs)) ReturnAim (after_region c p xs now a w)
    region_went i x xs h all Stay w ok =
        meets_on (on_to (yes_result h.1.1.0 refl) (go_skip h.1.1.1.0))
        (low.process_each.by xs q (i + 1 + 1 + 1 + 1 + 1) h.1.1.1.1.1 all w ok now 1 tag base home saved fs)
    region_went i x xs h all (Out d) w ok =
        meets_end (record { number = suc (suc (suc d)); good = refl })
        (on_to (no_result h.1.1.0 (out_stay d)) (go_pass h.1.1.1.1.0))

    -- the regions of an AND are processed
    regions_run : (xs : List ℕ) (i : ℕ) → HasAt k q i (regions_code N xs)
        → AllByRecursion (λ x. x < state_count c.tree) xs → (w : World) → Consistent c w → (r : ℕ)
        → MeetsAim C (machine w now r (at i ∷ fs)) ReturnAim (process_each_rule c p xs now w)
    regions_run [] i h all w ok r = meets_end (record { number = 1; good = refl }) (go_ret h.0)
    regions_run (x ∷ xs) i h all w ok r =
        choose_meets (is_on x w.marks) (p.process x now >>= after_region c p xs now) (p.process_each xs now) w
        (λ e. meets_on (on_to (yes_on h.0 e) (go_call h.1.0))
        (then_meets_with (keeping (keep.process x now w ok))
        (low.process.by x all.0 w ok e now r None base home None (at (i + 1 + 1) ∷ fs))
        (λ a v y ok'. subst (λ n. MeetsAim C (machine v now n (at (i + 1 + 1) ∷ fs)) ReturnAim
        (after_region c p xs now a v)) (sym y.good) (region_went i x xs h all.1 a v ok'))))
        (λ e. let same : i + 1 + 1 + 1 + 1 + 1 ≡ i + 1 + 4 = omega arith in
        meets_on (no_on h.0 e) (low.process_each.by xs q (i + 1 + 4)
        (subst (λ n. HasAt k q n (regions_code N xs)) same h.1.1.1.1.1) all.1 w ok now r tag base home saved fs))

  -- children are states
  states : (s : ℕ) → AllByRecursion (λ x. x < state_count c.tree) (children_of c.tree s)
  states s =
      all_map (IsChild c.tree s) (λ x. x < state_count c.tree) (children_of c.tree s) (λ x i. i.within)
      (children_are c.tree valid.tree s)

  -- ---- a state

  module _ (s : ℕ) (lt : s < state_count c.tree) (now : Now) (tag : Option ℕ) (base : ℕ) (saved : Option Event)
      (fs : List Frame) where
    -- the frame of the procedure at a place, with the state as its home
    abbrev on_s : ℕ → Frame
    on_s i = running (N.process s) i tag base s saved

    -- its frame returns with the answer
    abbrev ProcessAim : Aim Went
    ProcessAim = leaves saved now fs Says

    -- the children are processed, by how the state is composed
    children_by : (o : Comp) → HasAt k (N.process s) 13 (children_code N c.tree s o) → (w : World) → Consistent c w
        → (r : ℕ) → MeetsAim C (machine w now r (on_s 13 ∷ fs)) ProcessAim (process_children c p s now o w)
    unfolding active_child
    children_by Leaf h w ok r = meets_end (record { number = 1; good = refl }) (go_ret h.0)
    children_by Or h w ok r =
        active_runs now (N.process s) tag base s saved fs s (children_of c.tree s) 13 w r h (states s) ok
    children_by And h w ok r =
        low.process_each.by (children_of c.tree s) (N.process s) 13 h (states s) w ok now r tag base s saved fs

    -- the children of the state are processed
    children_run : (w : World) → Consistent c w → (r : ℕ)
        → MeetsAim C (machine w now r (on_s 13 ∷ fs)) ProcessAim (process_children c p s now (comp_of c.tree s) w)
    children_run w ok r = children_by (comp_of c.tree s) (K.process s lt).1.1.1.1.1.1.1.1.1.1.1.1.1 w ok r

    -- the end procedure returns its result
    end_back : (w : World) (r : ℕ) (t : Option ℕ) (bs : ℕ) (below above : List Frame)
        → ((v : World) (x : ℕ) → Reaches C (machine v now (suc x) below) (machine v now (suc x) above))
        → Reaches C (machine w now r (fresh N.end_mark t bs s None ∷ below)) (machine w now 2 above)
    end_back w r t bs below above back = on_to (go_ret K.end_mark.0) (back w 1)

    -- what the inner list found
    inner_found : (f : Found) (w : World) → Consistent c w → (y : FoundFacts C N s Inner now (on_s 10 ∷ fs) f w)
        → MeetsAim C (found_at C N s Inner now (on_s 10 ∷ fs) f w y) ProcessAim (after_inner c p s now f w)
    inner_found No w ok y =
        let h = (K.process s lt).1.1.1.1.1.1.1.1.1.1 in meets_on (on_to (no_result h.0 refl) (go_pass_zero h.1.1.0))
        (children_run w ok 0)
    inner_found Stop w ok y =
        let h = (K.process s lt).1.1.1.1.1.1.1.1.1.1 in meets_end (record { number = 1; good = refl })
        (on_to (no_result h.0 refl) (go_pass h.1.1.0))
    inner_found DeadEnd w ok y =
        let h = (K.process s lt).1.1.1.1.1.1.1.1.1.1 in
        meets_on (on_to (end_back w y.result y.tag y.base y.below (on_s 10 ∷ fs) y.back)
        (on_to (yes_result h.0 refl) (go_skip h.1.0))) (children_run w ok 2)
    inner_found (Fire d actions) w ok y =
        let h = (K.process s lt).1.1.1.1.1.1.1.1.1.1 in
        then_meets (low.take.by s d y.leads.home y.leads.path now y.result y.tag y.base s y.below actions y.notes w ok)
        (λ a v z. meets_end (record { number = 1; good = refl })
        (on_to (y.back v z.number) (on_to (no_result h.0 refl) (go_pass h.1.1.0))))

    -- after the during action
    during_ended : (a : End) (w : World) (r : ℕ) → Consistent c w → Tells a (is_on s w.marks)
        → MeetsAim C (machine w now r (on_s 6 ∷ fs)) ProcessAim
        (if_done a Stay (p.search (On s) (node c s).inner now >>= after_inner c p s now) w)
    during_ended Done w r ok e =
        let h = (K.process s lt).1.1.1.1.1.1 in
        meets_on (on_to (yes_on_home h.0 e) (on_to (go_skip h.1.0) (go_call h.1.1.1.0)))
        (then_meets_with (keeping (keep.search (On s) (node c s).inner now w ok))
        (low.search.by s Inner lt w ok e now r None base (on_s 10 ∷ fs)) (λ f v y ok'. inner_found f v ok' y))
    during_ended Cut w r ok e =
        let h = (K.process s lt).1.1.1.1.1.1 in meets_end (record { number = 1; good = refl })
        (on_to (no_on_home h.0 e) (go_ret h.1.1.0))

    -- the during action, the inner list, and the children
    inside_runs : (w : World) (r : ℕ) → Consistent c w → is_on s w.marks ≡ true
        → MeetsAim C (machine w now r (on_s 5 ∷ fs)) ProcessAim (go_on_inside c p s now w)
    inside_runs w r ok e =
        let h = (K.process s lt).1.1.1.1.1 in
        meets_on (go_call h.0) (then_meets_with (keeping (keep.block (On s) (node c s).during now w ok))
        (low.block.by (On s) (node c s).during (N.during s) 0 (K.during s lt)
        (during_targets c valid s) w ok e now r None base (on_s 6 ∷ fs))
        (λ a v y ok'. during_ended a v y.number ok' y.good))

    -- what the outer list found
    outer_found : (f : Found) (w : World) → Consistent c w → (y : FoundFacts C N s Outer now (on_s 2 ∷ fs) f w)
        → MeetsAim C (found_at C N s Outer now (on_s 2 ∷ fs) f w y) ProcessAim (after_outer c p s now f w)
    outer_found No w ok y =
        let h = (K.process s lt).1.1 in meets_on (on_to (no_result h.0 refl) (go_pass_zero h.1.1.0))
        (inside_runs w 0 ok y)
    outer_found Stop w ok y =
        let h = (K.process s lt).1.1 in meets_end (record { number = 1; good = refl })
        (on_to (no_result h.0 refl) (go_pass h.1.1.0))
    outer_found DeadEnd w ok y =
        let h = (K.process s lt).1.1 in
        meets_on (on_to (end_back w y.result y.tag y.base y.below (on_s 2 ∷ fs) y.back)
        (on_to (yes_result h.0 refl) (go_skip h.1.0))) (inside_runs w 2 ok y.alive)
    outer_found (Fire d actions) w ok y =
        let h = (K.process s lt).1.1 in
        let up = home_of c.tree s Outer d in
        then_meets (low.take.by up d y.leads.home y.leads.path now y.result y.tag y.base s y.below actions y.notes w ok)
        (λ a v z. meets_end (record { number = suc (suc (suc up)); good = refl })
        (on_to (y.back v z.number) (on_to (no_result h.0 (out_end up)) (go_pass h.1.1.0))))

  -- an active state is processed
  process_runs : (s : ℕ) → s < state_count c.tree → (w : World) → Consistent c w → is_on s w.marks ≡ true
      → (now : Now) (r : ℕ) (tag : Option ℕ) (base home : ℕ) (saved : Option Event) (fs : List Frame)
      → MeetsAim C (machine w now r (fresh (N.process s) tag base home saved ∷ fs)) (leaves saved now fs Says)
      (process_rule c p s now w)
  process_runs s lt w ok on now r tag base home saved fs =
      let h = K.process s lt in
      meets_on (on_to (go_home h.0) (go_call h.1.0)) (then_meets_with
      (keeping (keep.search (On s) (node c s).outer now w ok))
      (low.search.by s Outer lt w ok on now r None base (running (N.process s) 2 tag base s saved ∷ fs))
      (λ f v y ok'. outer_found s lt now tag base saved fs f v ok' y))

  -- the contract of processing a state
  pub does_process : DoesProcess C N (rules c b p)
  does_process = record { by = process_runs }

  -- the contract of processing regions
  pub does_process_each : DoesProcessEach C N (rules c b p)
  does_process_each =
      record {
        by = λ xs q i h all w ok now r tag base home saved fs. regions_run now q tag base home saved fs xs i h
            all w ok r;
      }
