-- The rules give exactly one start and one reaction, and what these keep.
use Rattle.std.proofs.Common.{◌≡◌, ◌≢◌, ℕ, zero, suc, ◌≤◌, max, Some, None, true, false, sym, ap, ◌∙◌, subst, arith}
use Rattle.flow_base.specs.declared.bounds.Bounds.{Bounds}
use Rattle.active_config.specs.Marks.{is_on, can_mark, no_marks, IsConsistent}
use Rattle.active_config.specs.Tree.{IsTree, comp_of}
use Rattle.active_config.proofs.MarksLemmas.{is_on-with_mark_same, is_on-with_mark_other, can_mark_off}
use Rattle.active_config.proofs.MarksLemmas.{no_marks_consistent, none_on, none_last}
use Rattle.actions.specs.declared.event.Event.{Event}
use Rattle.actions.specs.declared.event.Event.TheVariants.{Start}
use Rattle.actions.specs.Runs.{Moment}
use Rattle.actions.specs.World.{World, world_before, begun, Bare}
use Rattle.actions.specs.Work.{Run, Now, nothing}
use Rattle.actions.proofs.ChangeLemmas.{kept, paid_keeps, assigned_keeps}
use Rattle.checked_chart.specs.Chart.{Chart, node}
use Rattle.sos_rules.specs.Memory.{Remembers}
use Rattle.sos_rules.specs.Moves.{entered_in, enter_rule, enter_inside}
use Rattle.sos_rules.specs.Parts.{Parts}
use Rattle.sos_rules.specs.Reactions.{moment_of, Gives, from_outside, start_upto, react_upto, HasOne, IsRunning}
use Rattle.sos_rules.specs.Rules.{upto}
use Rattle.sos_rules.proofs.Extends.{Extends, later, same, upto_below}
use Rattle.sos_rules.proofs.Keeps.{Finishes, ended, faulted, unfinished, Closed, Keeps, Consistent, consistent_closed}
use Rattle.sos_rules.proofs.Keeps.{upto_keep, then_finishes, choose_finishes, if_done_finishes, enter_inside_finishes}
use Rattle.sos_rules.proofs.MarkedStates.{entered_consistent, entered_on, can_mark_root}
use Rattle.sos_rules.proofs.Memory.{remembers_closed}
use Rattle.sos_rules.proofs.Settles.{Left, Settles, ends, faults, process_ends, enter_ends}

-- ---- exactly one outcome

-- what is over from some height on leads to a moment
leads : {A : Type 0} (P : World → Type 0) (m : ℕ → Run A) → Settles P m → (moment : Moment) × Gives m moment
leads P m (ends a w p from h) =
    (record { world = w; fault = None }, record { height = from; gives = ap moment_of (h from (omega arith)) })
leads P m (faults x w p from h) =
    (record { world = w; fault = Some x }, record { height = from; gives = ap moment_of (h from (omega arith)) })

-- a greater height leads to the same moment
same_later : {A : Type 0} {r s : Run A} → Extends r s → (x : Moment) → moment_of r ≡ Some x → moment_of s ≡ Some x
same_later later x e = absurd cc
same_later same x e = e

-- work that a greater height doesn't change leads to one moment
one_of : {A : Type 0} (m : ℕ → Run A) → ((i j : ℕ) → i ≤ j → Extends (m i) (m j))
    → (r s : Moment) → Gives m r → Gives m s → r ≡ s
one_of m up r s x y =
    let n = max x.height y.height in
    let a = same_later (up x.height n (omega arith)) r x.gives in
    let b = same_later (up y.height n (omega arith)) s y.gives in
    cc

module _ (c : Chart) (b : Bounds) where
  -- a start at a greater height extends one at a lower height, and so does a reaction
  start_up : (i j : ℕ) → i ≤ j → Extends (start_upto c b i) (start_upto c b j)
  start_up i j le = (upto_below c b i j le).enter 0 0 (from_outside Start) (world_before c.tree c.names)

  react_up : (w : World) (e : Event) (i j : ℕ) → i ≤ j → Extends (react_upto c b w e i) (react_upto c b w e j)
  react_up w e i j le = (upto_below c b i j le).process 0 (from_outside e) (begun w)

  -- a start has at most one outcome
  pub only_start : (r s : Moment) → Gives (start_upto c b) r → Gives (start_upto c b) s → r ≡ s
  only_start r s x y = one_of (start_upto c b) start_up r s x y

  -- and so has a reaction
  pub only_reaction : (w : World) (e : Event) (r s : Moment)
      → Gives (react_upto c b w e) r → Gives (react_upto c b w e) s → r ≡ s
  only_reaction w e r s x y = one_of (react_upto c b w e) (react_up w e) r s x y

  module _ (tree : IsTree c.tree) where
    -- a start has exactly one outcome
    pub one_start : HasOne (Gives (start_upto c b))
    one_start =
        let some =
        leads (Left b b.steps) (start_upto c b) (enter_ends c b tree b.depth b.steps 0 0 (from_outside Start)
        (world_before c.tree c.names) (omega arith) (record { left = omega arith })) in
        record { moment = some.0; holds = some.1; only = λ other x. only_start other some.0 x some.1 }

    -- a reaction has exactly one outcome
    pub one_reaction : (w : World) (e : Event) → HasOne (Gives (react_upto c b w e))
    one_reaction w e =
        let some =
        leads (Left b b.steps) (react_upto c b w e) (process_ends c b tree b.depth b.steps 0 (from_outside e) (begun w)
        (omega arith) (record { left = omega arith })) in
        record { moment = some.0; holds = some.1; only = λ other x. only_reaction w e other some.0 x some.1 }

-- ---- what starts and reactions keep

-- whether a chart is running depends on the marks alone
same_marks : (c : Chart) (w v : World) → v.marks ≡ w.marks → IsRunning c w → IsRunning c v
same_marks c w v e h =
    record { consistent = subst (IsConsistent c.tree) (sym e) h.consistent; root = ap (is_on 0) e ∙ h.root }

-- each change of the rules keeps active states consistent and the root active
running_closed : (c : Chart) (b : Bounds) → Closed c b (IsRunning c)
running_closed c b =
    let k = consistent_closed c b in
    record {
      pays = λ w v e h. same_marks c w v (kept w (paid_keeps b w) e) h;
      assigns = λ x e w v q h. same_marks c w v (kept w (assigned_keeps x e w) q) h;
      emits = λ e w h. record { consistent = h.consistent; root = h.root };
      marks = λ s w can h.
          record {
            consistent = k.marks s w can h.consistent;
            root =
                let ne : 0 ≢ s = λ e.
                absurd (
                let off = can_mark_off c.tree s w.marks can in
                let on = ap (λ x. is_on x w.marks) e in let root = h.root in cc) in
                entered_on c s 0 w ∙ is_on-with_mark_other s 0 true w.marks ne ∙ h.root;
          };
      clears = λ s w pos bare h.
          record {
            consistent = k.clears s w pos bare h.consistent;
            root = let ne : 0 ≢ s = omega arith in is_on-with_mark_other s 0 false w.marks ne ∙ h.root;
          };
    }

-- what holds at the end of work holds of the moment
pub reached : {A : Type 0} (P : World → Type 0) {o : Run A} → Finishes P o → (r : Moment) → moment_of o ≡ Some r
    → P r.world
reached P (ended a w h) r e = let f : w ≡ r.world = cc in subst P f h
reached P (faulted x w h) r e = let f : w ≡ r.world = cc in subst P f h
reached P unfinished r e = absurd cc

module _ (c : Chart) (tree : IsTree c.tree) (b : Bounds) where
  -- after a reaction states are consistent and the root is active, where they were before
  pub reaction_keeps : (w : World) (e : Event) (r : Moment) → IsRunning c w → Gives (react_upto c b w e) r
      → IsRunning c r.world
  reaction_keeps w e r h x =
      let k = upto_keep c tree b (IsRunning c) (running_closed c b) x.height in
      let h' : IsRunning c (begun w) = record { consistent = h.consistent; root = h.root } in
      reached (IsRunning c) (k.process 0 (from_outside e) (begun w) h') r x.gives

  -- the root is entered where no state is active
  root_enters : (p : Parts) → Keeps (IsRunning c) p → (now : Now) (w : World)
      → Consistent c w → can_mark c.tree 0 w.marks ≡ true → Finishes (IsRunning c) (enter_rule c p 0 0 now w)
  root_enters p keep now w ok can =
      choose_finishes (IsRunning c) (can_mark c.tree 0 w.marks) _ nothing w
      (λ _.
      let root : IsRunning c (entered_in c 0 w) = record {
        consistent = entered_consistent c 0 w can ok;
        root = entered_on c 0 0 w ∙ is_on-with_mark_same 0 true w.marks (omega (arith, tree.some, ok.sized));
      } in
      then_finishes (IsRunning c) (keep.block (Bare 0) (node c 0).entry now (entered_in c 0 w) root)
      (λ a v h. if_done_finishes (IsRunning c) a tt (enter_inside c p 0 0 now (comp_of c.tree 0)) v h
      (enter_inside_finishes c tree b (IsRunning c) (running_closed c b) p keep 0 0 now (comp_of c.tree 0) v h)))
      (λ cannot. absurd cc)

  -- after the start states are consistent and the root is active
  pub start_keeps : (r : Moment) → Gives (start_upto c b) r → IsRunning c r.world
  start_keeps r x = at x.height x.gives
    where
      at : (n : ℕ) → moment_of (start_upto c b n) ≡ Some r → IsRunning c r.world
      at zero e = absurd cc
      at (suc n) e =
          reached (IsRunning c)
          (root_enters (upto c b n) (upto_keep c tree b (IsRunning c) (running_closed c b) n) (from_outside Start)
          (world_before c.tree c.names) (no_marks_consistent c.tree)
          (can_mark_root c.tree 0 (no_marks c.tree) (none_on c.tree 0) tree.pre_order.root)) r e

  -- ---- what is remembered

  abbrev Holds : World → Type 0
  Holds w = Remembers c w.marks

  -- a reaction keeps what is remembered right
  pub reaction_remembers : (w : World) (e : Event) (r : Moment)
      → Remembers c w.marks → Gives (react_upto c b w e) r → Remembers c r.world.marks
  reaction_remembers w e r h x =
      let k = upto_keep c tree b Holds (remembers_closed c tree b) x.height in
      reached Holds (k.process 0 (from_outside e) (begun w) h) r x.gives

  -- where nothing is marked, nothing is remembered
  none_remembered : Remembers c (no_marks c.tree)
  none_remembered = record {
    consistent = no_marks_consistent c.tree;
    active = λ s x hist up on. absurd (let off = none_on c.tree x in cc);
    only = λ s x e. absurd (let none = none_last c.tree s in cc);
  }

  -- and so does the start
  pub start_remembers : (r : Moment) → Gives (start_upto c b) r → Remembers c r.world.marks
  start_remembers r x =
      let k = upto_keep c tree b Holds (remembers_closed c tree b) x.height in
      reached Holds (k.enter 0 0 (from_outside Start) (world_before c.tree c.names) none_remembered) r x.gives
