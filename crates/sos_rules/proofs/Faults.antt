-- The faults of a valid chart name data that are declared.
use Rattle.std.proofs.Common.{◌≡◌, ℕ, zero, suc, ◌<◌, nat_le, List, [], ◌∷◌, length, Option, Some, None, Result, Ok}
use Rattle.std.proofs.Common.{Err, Bool, true, false, cond, subst, arith}
use Rattle.std.specs.Prelude.{slice_get, ℤ, ◌==◌, ◌+◌}
use Rattle.flow_base.specs.declared.bounds.Bounds.{Bounds}
use Rattle.flow_base.specs.declared.fault.Fault.{Fault}
use Rattle.flow_base.specs.declared.fault.Fault.TheVariants as faults_of
use Rattle.fixed_point.specs.declared.fitting.Overflow.{Overflow}
use Rattle.fixed_point.specs.declared.num.Num.{Num}
use Rattle.fixed_point.specs.declared.quotient.Zero.{Zero}
use Rattle.fixed_point.specs.Numbers.{quotient_of}
use Rattle.active_config.specs.declared.comp.Comp.{Comp}
use Rattle.active_config.specs.declared.comp.Comp.TheVariants.{Leaf, Or, And}
use Rattle.active_config.specs.Tree.{comp_of}
use Rattle.active_config.specs.Marks.{is_on, is_bare, can_mark, active_child}
use Rattle.actions.specs.declared.event.Event.{Event}
use Rattle.actions.specs.declared.event.Event.TheVariants.{Start}
use Rattle.actions.specs.declared.expr.Op.{Op}
use Rattle.actions.specs.declared.expr.Op.TheVariants as ops
use Rattle.actions.specs.declared.expr.Value.{Value}
use Rattle.actions.specs.Data.{Datum, datum, keep, kept, assigned}
use Rattle.actions.specs.Engines.{IsFaultOf}
use Rattle.actions.specs.Exprs.{Expr, Lit, Flag, Read, Active, Neg, Not, Bin, Stmt, Assign, Send, SendTo, Emit}
use Rattle.actions.specs.Names.{Names}
use Rattle.actions.specs.Values.{Valued, with_value, number_of, quotient_value, applied, decides, value_of}
use Rattle.actions.specs.World.{World, world_before, begun, emitted, Life, On, Bare, paid}
use Rattle.actions.specs.Runs.{Moment}
use Rattle.active_config.specs.Marks.{Configuration}
use Rattle.actions.specs.Changes.{set_mark, paid_in, with_data, assigned_value, assigned_in, truth, truth_of}
use Rattle.actions.specs.Work.{Run, Ended, Faulted, Unfinished, Work, ◌>>=◌, ◌>>◌, give, nothing, fault, change}
use Rattle.actions.specs.Work.{deeper, then_do, choose, if_some, End, Done, Cut, if_done, Now, change_or_fault}
use Rattle.actions.specs.Work.{flag_or_fault}
use Rattle.sos_rules.specs.Finds.{AreActions, IsFound}
use Rattle.sos_rules.specs.Moves.{if_bare, exit_active, exit_children, exit_rule, exit_each_rule, enter_toward}
use Rattle.sos_rules.specs.Moves.{enter_inside, enter_rule, enter_each_rule, after_default, defaults_rule, take_rule}
use Rattle.sos_rules.specs.Moves.{entered_in, default_search, remembered}
use Rattle.sos_rules.specs.Parts.{Found, Fire, DeadEnd, No, Stop, Went, Stay, Out, Parts}
use Rattle.sos_rules.specs.Processing.{from_child, process_children, after_inner, go_on_inside, after_outer}
use Rattle.sos_rules.specs.Processing.{process_rule, after_region, process_each_rule}
use Rattle.sos_rules.specs.Reactions.{moment_of, Gives, from_outside, start_upto, react_upto}
use Rattle.sos_rules.specs.Rules.{rules, upto}
use Rattle.sos_rules.specs.Searches.{pay, assign, guard_holds, event_fits, is_enabled, receiver, receives, while_alive}
use Rattle.sos_rules.specs.Searches.{statement, block_rule, send_rule, search_rule, after_junction, visit, at_dest}
use Rattle.sos_rules.specs.Searches.{after_condition, play_rule}
use Rattle.checked_chart.proofs.PartsLemmas.{node_valid, junction_valid}
use Rattle.checked_chart.specs.Chart.{Chart, Trans, node, junction}
use Rattle.checked_chart.specs.Homes.{child_toward}
use Rattle.checked_chart.specs.Valid.{AreStmts, AreTrans, CanAssign, IsStmt, IsTrans, IsDest, IsValid}
use Rattle.checked_chart.specs.declared.parts.Dest.{Dest}
use Rattle.checked_chart.specs.declared.parts.Dest.TheVariants.{State, Junction}

-- any answer will do
abbrev pub Any : {A : Type 0} → A → Type 0
Any a = Unit {0}

-- P holds of the answer, and a fault is one of what is declared
pub data Fine (n : Names) {A : Type 0} (P : A → Type 0) : Run A → Type 0 where
  ends : (a : A) (w : World) → P a → Fine n P (Ended a w)
  faults : (x : Fault) (w : World) → IsFaultOf n (Some x) → Fine n P (Faulted x w)
  over : Fine n P Unfinished

module _ (n : Names) where
  -- the forms of work are fine, where their parts are
  then_fine : {A B : Type 0} {P : A → Type 0} {Q : B → Type 0} {r : Run A} {f : A → Work B} → Fine n P r
      → ((a : A) (w : World) → P a → Fine n Q (f a w)) → Fine n Q (then_do r f)
  then_fine (ends a w h) k = k a w h
  then_fine (faults x w h) k = faults x w h
  then_fine over k = over

  choose_fine : {A : Type 0} {P : A → Type 0} (b : Bool) (m k : Work A) (w : World) → Fine n P (m w) → Fine n P (k w)
      → Fine n P (choose b m k w)
  choose_fine true m k w h i = h
  choose_fine false m k w h i = i

  if_done_fine : {A : Type 0} {P : A → Type 0} (e : End) (a : A) (m : Work A) (w : World) → P a → Fine n P (m w)
      → Fine n P (if_done e a m w)
  if_done_fine Done a m w h i = i
  if_done_fine Cut a m w h i = ends a w h

  if_some_fine : {A : Type 0} {P : A → Type 0} (o : Option ℕ) (m : Work A) (f : ℕ → Work A) (w : World) → Fine n P (m w)
      → ((x : ℕ) → Fine n P (f x w)) → Fine n P (if_some o m f w)
  if_some_fine None m f w h i = h
  if_some_fine (Some x) m f w h i = i x

  -- ---- values and assignments

  -- a fault is one of what is declared
  abbrev FineResult : {A : Type 0} → Result A Fault → Type 0
  FineResult (Ok a) = Unit {0}
  FineResult (Err x) = IsFaultOf n (Some x)

  -- an expression is fine where its parts are
  with_value_fine : (r : Valued) (f : Value → Valued) → FineResult r → ((v : Value) → FineResult (f v))
      → FineResult (with_value r f)
  with_value_fine (Ok v) f h k = k v
  with_value_fine (Err x) f h k = h

  quotient_fine : (r : Result Num Zero) → FineResult (quotient_value r)
  quotient_fine (Ok x) = tt
  quotient_fine (Err z) = tt

  applied_fine : (op : Op) (a b : Value) → FineResult (applied op a b)
  applied_fine ops.Or a b = tt
  applied_fine ops.And a b = tt
  applied_fine ops.Eq a b = tt
  applied_fine ops.Ne a b = tt
  applied_fine ops.Lt a b = tt
  applied_fine ops.Le a b = tt
  applied_fine ops.Gt a b = tt
  applied_fine ops.Ge a b = tt
  applied_fine ops.Add a b = tt
  applied_fine ops.Sub a b = tt
  applied_fine ops.Mul a b = tt
  applied_fine ops.Div a b = quotient_fine (quotient_of (number_of a) (number_of b))

  cond_fine : (b : Bool) (r s : Valued) → FineResult r → FineResult s → FineResult (cond b r s)
  cond_fine true r s h k = h
  cond_fine false r s h k = k

  value_fine : (vals : List Datum) (marks : Configuration) (e : Expr) → FineResult (value_of vals marks e)
  unfolding value_of
  value_fine vals marks (Lit x) = tt
  value_fine vals marks (Flag b) = tt
  value_fine vals marks (Read v) = tt
  value_fine vals marks (Active s) = tt
  value_fine vals marks (Neg a) = with_value_fine (value_of vals marks a) _ (value_fine vals marks a) (λ v. tt)
  value_fine vals marks (Not a) = with_value_fine (value_of vals marks a) _ (value_fine vals marks a) (λ v. tt)
  value_fine vals marks (Bin op a b) =
      with_value_fine (value_of vals marks a) _ (value_fine vals marks a)
      (λ left. cond_fine (decides op left) (Ok left) _ tt
      (with_value_fine (value_of vals marks b) (applied op left) (value_fine vals marks b) (applied_fine op left)))

  keep_fine : (vals : List Datum) (v : ℕ) (r : Result ℤ Overflow) → v < length n.vars → FineResult (keep vals v r)
  keep_fine vals v (Ok m) lt = tt
  keep_fine vals v (Err o) lt = lt

  -- an assignment to a declared datum is fine
  assigned_fine : (vals : List Datum) (v : ℕ) (value : Value) → v < length n.vars → FineResult (assigned vals v value)
  unfolding assigned
  assigned_fine vals v value lt = keep_fine vals v (kept value (datum vals v)) lt

  data_fine : (r : Result (List Datum) Fault) (w : World) → FineResult r → FineResult (with_data r w)
  data_fine (Ok vals) w h = tt
  data_fine (Err x) w h = h

  assigned_value_fine : (v : ℕ) (r : Valued) (w : World) → v < length n.vars → FineResult r
      → FineResult (assigned_value v r w)
  assigned_value_fine v (Ok x) w lt h = data_fine (assigned w.vals v x) w (assigned_fine w.vals v x lt)
  assigned_value_fine v (Err x) w lt h = h

  assigned_in_fine : (v : ℕ) (e : Expr) (w : World) → v < length n.vars → FineResult (assigned_in v e w)
  unfolding assigned_in
  assigned_in_fine v e w lt = assigned_value_fine v (value_of w.vals w.marks e) w lt (value_fine w.vals w.marks e)

  truth_fine : (r : Valued) → FineResult r → FineResult (truth r)
  truth_fine (Ok x) h = tt
  truth_fine (Err x) h = h

  truth_of_fine : (e : Expr) (w : World) → FineResult (truth_of e w)
  unfolding truth_of
  truth_of_fine e w = truth_fine (value_of w.vals w.marks e) (value_fine w.vals w.marks e)

  change_fine : (r : Result World Fault) (w : World) → FineResult r → Fine n Any (change_or_fault r w)
  change_fine (Ok v) w h = ends tt v tt
  change_fine (Err x) w h = faults x w h

  flag_fine : (r : Result Bool Fault) (w : World) → FineResult r → Fine n Any (flag_or_fault r w)
  flag_fine (Ok b) w h = ends b w tt
  flag_fine (Err x) w h = faults x w h

  paid_fine : (full : Bool) (w : World) → FineResult (cond full (Err faults_of.Steps) (Ok w))
  paid_fine true w = tt
  paid_fine false w = tt

  pay_fine : (b : Bounds) (w : World) → Fine n Any (pay b w)
  unfolding paid_in
  pay_fine b w = change_fine (paid b w) w (paid_fine (nat_le b.steps w.used) (record w { used = w.used + 1 }))

  got_within : {A : Type 0} (xs : List A) (i : ℕ) (x : A) → slice_get xs i ≡ Some x → i < length xs
  got_within [] i x e = absurd cc
  got_within (y ∷ xs) zero x e = omega arith
  got_within (y ∷ xs) (suc i) x e = let h = got_within xs i x e in omega arith

  assign_fine : (v : ℕ) (e : Expr) (w : World) → CanAssign n v e → Fine n Any (assign v e w)
  assign_fine v e w can =
      change_fine (assigned_in v e w) w (assigned_in_fine v e w (got_within n.vars v can.decl can.declared))

  guard_fine : (g : Option Expr) (w : World) → Fine n Any (guard_holds g w)
  guard_fine None w = ends true w tt
  guard_fine (Some e) w = flag_fine (truth_of e w) w (truth_of_fine e w)

-- ---- the rules

pub record Fines (c : Chart) (p : Parts) : Type 0 where
  pub block : (life : Life) (ss : List Stmt) (now : Now) (w : World) → AreStmts c ss
      → Fine c.names Any (p.block life ss now w)
  pub send : (e : ℕ) (to : Option ℕ) (now : Now) (w : World) → Fine c.names Any (p.send e to now w)
  pub search : (life : Life) (ts : List Trans) (now : Now) (w : World) → AreTrans c ts
      → Fine c.names (IsFound c) (p.search life ts now w)
  pub exit : (s : ℕ) (now : Now) (w : World) → Fine c.names Any (p.exit s now w)
  pub exit_each : (xs : List ℕ) (now : Now) (w : World) → Fine c.names Any (p.exit_each xs now w)
  pub enter : (s d : ℕ) (now : Now) (w : World) → Fine c.names Any (p.enter s d now w)
  pub enter_each : (xs : List ℕ) (d : ℕ) (now : Now) (w : World) → Fine c.names Any (p.enter_each xs d now w)
  pub defaults : (s : ℕ) (now : Now) (w : World) → Fine c.names Any (p.defaults s now w)
  pub play : (s : ℕ) (actions : List (List Stmt)) (now : Now) (w : World) → AreActions c actions
      → Fine c.names Any (p.play s actions now w)
  pub take : (s d : ℕ) (actions : List (List Stmt)) (now : Now) (w : World) → AreActions c actions
      → Fine c.names Any (p.take s d actions now w)
  pub process : (s : ℕ) (now : Now) (w : World) → Fine c.names Any (p.process s now w)
  pub process_each : (xs : List ℕ) (now : Now) (w : World) → Fine c.names Any (p.process_each xs now w)

module _ (c : Chart) (valid : IsValid c) (b : Bounds) where
  abbrev n : Names
  n = c.names

  module _ (p : Parts) (h : Fines c p) where
    alive_fine : (life : Life) (w : World) → Fine n Any (while_alive c.tree life w)
    alive_fine life w = search (choose_fine n, ends)

    statement_fine : (life : Life) (s : Stmt) (now : Now) (w : World) → IsStmt c s
        → Fine n Any (statement c b p life s now w)
    statement_fine life (Assign v e) now w k = then_fine n (assign_fine n v e w k) (λ _ u _. ends Done u tt)
    statement_fine life (Emit e) now w k = then_fine n (pay_fine n b w) (λ _ u _. ends Done (emitted e u) tt)
    statement_fine life (Send e) now w k = then_fine n (h.send e None now w) (λ _ u _. alive_fine life u)
    statement_fine life (SendTo e s) now w k = then_fine n (h.send e (Some s) now w) (λ _ u _. alive_fine life u)

    block_fine : (life : Life) (ss : List Stmt) (now : Now) (w : World) → AreStmts c ss
        → Fine n Any (block_rule c b p life ss now w)
    block_fine life [] now w k = ends Done w tt
    block_fine life (s ∷ rest) now w k =
        then_fine n (statement_fine life s now w k.0)
        (λ e u _. if_done_fine n e Cut (p.block life rest now) u tt (h.block life rest now u k.1))

    abbrev send_on : ℕ → Option ℕ → Now → Work (Unit {0})
    send_on e to now w = choose (receives to w) (p.process (receiver to) (deeper e now) >> nothing) nothing w

    send_fine : (e : ℕ) (to : Option ℕ) (now : Now) (w : World) → Fine n Any (send_rule c b p e to now w)
    send_fine e to now w =
        choose_fine n (nat_le b.depth now.depth) (fault faults_of.Depth) (pay b >> send_on e to now) w
        (faults faults_of.Depth w tt) (then_fine n (pay_fine n b w)
        (λ _ u _. choose_fine n (receives to u) (p.process (receiver to) (deeper e now) >> nothing) nothing u
        (then_fine n (h.process (receiver to) (deeper e now) u) (λ _ v _. ends tt v tt)) (ends tt u tt)))

    after_junction_fine : (life : Life) (action : List Stmt) (rest : List Trans) (now : Now) (f : Found) (w : World)
        → AreStmts c action → AreTrans c rest → IsFound c f
        → Fine n (IsFound c) (after_junction c b p life action rest now f w)
    after_junction_fine life action rest now (Fire d actions) w a r k = ends _ w (k.0, (a, k.1))
    after_junction_fine life action rest now DeadEnd w a r k = ends _ w tt
    after_junction_fine life action rest now No w a r k = h.search life rest now w r
    after_junction_fine life action rest now Stop w a r k = ends _ w tt

    visit_fine : (life : Life) (action : List Stmt) (rest : List Trans) (now : Now) (ts : List Trans) (w : World)
        → AreStmts c action → AreTrans c rest → AreTrans c ts
        → Fine n (IsFound c) (visit c b p life action rest now ts w)
    visit_fine life action rest now [] w a r k = ends _ w tt
    visit_fine life action rest now (t ∷ ts) w a r k =
        then_fine n (h.search life (t ∷ ts) now w k) (λ f u i. after_junction_fine life action rest now f u a r i)

    at_dest_fine : (life : Life) (action : List Stmt) (rest : List Trans) (now : Now) (d : Dest) (w : World)
        → AreStmts c action → AreTrans c rest → IsDest c d → Fine n (IsFound c) (at_dest c b p life action rest now d w)
    at_dest_fine life action rest now (State d) w a r k = ends _ w (k.1, (a, tt))
    at_dest_fine life action rest now (Junction j) w a r k =
        then_fine n (pay_fine n b w)
        (λ _ u _. visit_fine life action rest now (junction c j) u a r (junction_valid c valid j))

    after_condition_fine : (life : Life) (t : Trans) (rest : List Trans) (now : Now) (e : End) (w : World) → IsTrans c t
        → AreTrans c rest → Fine n (IsFound c) (after_condition c b p life t rest now e w)
    after_condition_fine life t rest now Done w k r =
        at_dest_fine life t.action rest now t.dest w k.action.stmts r k.dest
    after_condition_fine life t rest now Cut w k r = ends _ w tt

    enabled_fine : (t : Trans) (now : Now) (w : World) → Fine n Any (is_enabled t now w)
    enabled_fine t now w =
        choose_fine n (event_fits t.event now.event) (guard_holds t.guard) (give false) w (guard_fine n t.guard w)
        (ends false w tt)

    search_fine : (life : Life) (ts : List Trans) (now : Now) (w : World) → AreTrans c ts
        → Fine n (IsFound c) (search_rule c b p life ts now w)
    search_fine life [] now w k = ends _ w tt
    search_fine life (t ∷ ts) now w k =
        then_fine n (enabled_fine t now w) (λ e u _.
        choose_fine n e (p.block life t.condition now >>= after_condition c b p life t ts now) (p.search life ts now) u
        (then_fine n (h.block life t.condition now u k.0.condition.stmts)
        (λ end v _. after_condition_fine life t ts now end v k.0 k.1)) (h.search life ts now u k.1))

    exit_active_fine : (s : ℕ) (now : Now) (w : World) → Fine n Any (exit_active c p s now w)
    exit_active_fine s now w =
        if_some_fine n (active_child c.tree s w.marks) nothing (λ x. p.exit x now) w (ends tt w tt)
        (λ x. h.exit x now w)

    exit_children_fine : (s : ℕ) (now : Now) (o : Comp) (w : World) → Fine n Any (exit_children c p s now o w)
    exit_children_fine s now Leaf w = ends tt w tt
    exit_children_fine s now Or w = exit_active_fine s now w
    exit_children_fine s now And w = h.exit_each _ now w

    abbrev exit_work : ℕ → Now → Work (Unit {0})
    exit_work s now =
        p.block (Bare s) (node c s).exit now >>= (λ e. if_done e tt (if_bare c.tree s (change (set_mark s false))))

    exit_fine : (s : ℕ) (now : Now) (w : World) → Fine n Any (exit_rule c p s now w)
    exit_fine s now w =
        choose_fine n (is_on s w.marks)
        (exit_children c p s now (comp_of c.tree s) >> if_bare c.tree s (exit_work s now)) nothing w
        (then_fine n (exit_children_fine s now (comp_of c.tree s) w)
        (λ _ u _. choose_fine n (is_bare c.tree s u.marks) (exit_work s now) nothing u
        (then_fine n (h.block (Bare s) (node c s).exit now u (node_valid c valid s).exit.stmts)
        (λ e v _. if_done_fine n e tt (if_bare c.tree s (change (set_mark s false))) v tt
        (choose_fine n (is_bare c.tree s v.marks) (change (set_mark s false)) nothing v
        (ends tt (set_mark s false v) tt) (ends tt v tt)))) (ends tt u tt))) (ends tt w tt)

    exit_each_fine : (xs : List ℕ) (now : Now) (w : World) → Fine n Any (exit_each_rule c p xs now w)
    exit_each_fine [] now w = ends tt w tt
    exit_each_fine (x ∷ xs) now w = then_fine n (h.exit x now w) (λ _ u _. h.exit_each xs now u)

    toward_fine : (s d : ℕ) (now : Now) (w : World) → Fine n Any (enter_toward c p s d now w)
    toward_fine s d now w =
        choose_fine n (s == d) (p.defaults s now) (if_some (child_toward c.tree s d) nothing (λ x. p.enter x d now)) w
        (h.defaults s now w) (if_some_fine n (child_toward c.tree s d) nothing (λ x. p.enter x d now) w (ends tt w tt)
        (λ x. h.enter x d now w))

    enter_inside_fine : (s d : ℕ) (now : Now) (o : Comp) (w : World) → Fine n Any (enter_inside c p s d now o w)
    enter_inside_fine s d now Leaf w = ends tt w tt
    enter_inside_fine s d now Or w = toward_fine s d now w
    enter_inside_fine s d now And w = h.enter_each _ d now w

    enter_fine : (s d : ℕ) (now : Now) (w : World) → Fine n Any (enter_rule c p s d now w)
    enter_fine s d now w =
        choose_fine n (can_mark c.tree s w.marks) (change (entered_in c s) >>
        (p.block (Bare s) (node c s).entry now >>= (λ e. if_done e tt (enter_inside c p s d now (comp_of c.tree s)))))
        nothing w (then_fine n
        (h.block (Bare s) (node c s).entry now (entered_in c s w) (node_valid c valid s).entry.stmts)
        (λ e v _. if_done_fine n e tt (enter_inside c p s d now (comp_of c.tree s)) v tt
        (enter_inside_fine s d now (comp_of c.tree s) v))) (ends tt w tt)

    enter_each_fine : (xs : List ℕ) (d : ℕ) (now : Now) (w : World) → Fine n Any (enter_each_rule c p xs d now w)
    enter_each_fine [] d now w = ends tt w tt
    enter_each_fine (x ∷ xs) d now w = then_fine n (h.enter x _ now w) (λ _ u _. h.enter_each xs d now u)

    after_default_fine : (s : ℕ) (now : Now) (f : Found) (w : World) → IsFound c f
        → Fine n Any (after_default c p s now f w)
    after_default_fine s now (Fire d actions) w k =
        then_fine n (h.play s actions now w k.1) (λ e v _.
        if_done_fine n e tt (if_some (child_toward c.tree s d) nothing (λ x. p.enter x d now)) v tt
        (if_some_fine n (child_toward c.tree s d) nothing (λ x. p.enter x d now) v (ends tt v tt)
        (λ x. h.enter x d now v)))
    after_default_fine s now DeadEnd w k = ends tt w tt
    after_default_fine s now No w k = ends tt w tt
    after_default_fine s now Stop w k = ends tt w tt

    search_default_fine : (s : ℕ) (now : Now) (w : World) → Fine n Any (default_search c p s now w)
    search_default_fine s now w =
        then_fine n (h.search (Bare s) (node c s).default now w (node_valid c valid s).default)
        (λ f u i. after_default_fine s now f u i)

    defaults_fine : (s : ℕ) (now : Now) (w : World) → Fine n Any (defaults_rule c p s now w)
    defaults_fine s now w =
        if_some_fine n (remembered c s w) (default_search c p s now) (λ x. p.enter x x now) w
        (search_default_fine s now w) (λ x. h.enter x x now w)

    play_fine : (s : ℕ) (actions : List (List Stmt)) (now : Now) (w : World) → AreActions c actions
        → Fine n Any (play_rule c b p s actions now w)
    play_fine s [] now w k = ends Done w tt
    play_fine s ([] ∷ actions) now w k = h.play s actions now w k.1
    play_fine s ((x ∷ xs) ∷ actions) now w k =
        then_fine n (pay_fine n b w) (λ _ u _. then_fine n (h.block (Bare s) (x ∷ xs) now u k.0)
        (λ e v _. if_done_fine n e Cut (p.play s actions now) v tt (h.play s actions now v k.1)))

    take_fine : (s d : ℕ) (actions : List (List Stmt)) (now : Now) (w : World) → AreActions c actions
        → Fine n Any (take_rule c p s d actions now w)
    take_fine s d actions now w k =
        then_fine n (exit_active_fine s now w) (λ _ u _. choose_fine n (is_bare c.tree s u.marks)
        (p.play s actions now >>= (λ e. if_done e tt (if_bare c.tree s (enter_toward c p s d now)))) nothing u
        (then_fine n (h.play s actions now u k) (λ e v _. if_done_fine n e tt
        (if_bare c.tree s (enter_toward c p s d now)) v tt (choose_fine n (is_bare c.tree s v.marks)
        (enter_toward c p s d now) nothing v (toward_fine s d now v) (ends tt v tt)))) (ends tt u tt))

    from_child_fine : (s : ℕ) (r : Went) (w : World) → Fine n Any (from_child s r w)
    from_child_fine s Stay w = ends _ w tt
    from_child_fine s (Out d) w = choose_fine n (d == s) (give Stay) (give (Out d)) w (ends _ w tt) (ends _ w tt)

    process_children_fine : (s : ℕ) (now : Now) (o : Comp) (w : World) → Fine n Any (process_children c p s now o w)
    process_children_fine s now Leaf w = ends _ w tt
    process_children_fine s now Or w =
        if_some_fine n (active_child c.tree s w.marks) (give Stay) (λ x. p.process x now >>= from_child s) w
        (ends Stay w tt) (λ x. then_fine n (h.process x now w) (λ r u _. from_child_fine s r u))
    process_children_fine s now And w = h.process_each _ now w

    after_inner_fine : (s : ℕ) (now : Now) (f : Found) (w : World) → IsFound c f
        → Fine n Any (after_inner c p s now f w)
    after_inner_fine s now (Fire d actions) w k = then_fine n (h.take s d actions now w k.1) (λ _ u _. ends _ u tt)
    after_inner_fine s now DeadEnd w k = process_children_fine s now (comp_of c.tree s) w
    after_inner_fine s now No w k = process_children_fine s now (comp_of c.tree s) w
    after_inner_fine s now Stop w k = ends _ w tt

    inside_fine : (s : ℕ) (now : Now) (w : World) → Fine n Any (go_on_inside c p s now w)
    inside_fine s now w =
        then_fine n (h.block (On s) (node c s).during now w (node_valid c valid s).during.stmts)
        (λ e u _. if_done_fine n e Stay (p.search (On s) (node c s).inner now >>= after_inner c p s now) u tt
        (then_fine n (h.search (On s) (node c s).inner now u (node_valid c valid s).inner)
        (λ f v i. after_inner_fine s now f v i)))

    after_outer_fine : (s : ℕ) (now : Now) (f : Found) (w : World) → IsFound c f
        → Fine n Any (after_outer c p s now f w)
    after_outer_fine s now (Fire d actions) w k = then_fine n (h.take _ d actions now w k.1) (λ _ u _. ends _ u tt)
    after_outer_fine s now DeadEnd w k = inside_fine s now w
    after_outer_fine s now No w k = inside_fine s now w
    after_outer_fine s now Stop w k = ends _ w tt

    process_fine : (s : ℕ) (now : Now) (w : World) → Fine n Any (process_rule c p s now w)
    process_fine s now w =
        then_fine n (h.search (On s) (node c s).outer now w (node_valid c valid s).outer)
        (λ f u i. after_outer_fine s now f u i)

    after_region_fine : (xs : List ℕ) (now : Now) (r : Went) (w : World) → Fine n Any (after_region c p xs now r w)
    after_region_fine xs now Stay w = h.process_each xs now w
    after_region_fine xs now (Out s) w = ends _ w tt

    process_each_fine : (xs : List ℕ) (now : Now) (w : World) → Fine n Any (process_each_rule c p xs now w)
    process_each_fine [] now w = ends _ w tt
    process_each_fine (x ∷ xs) now w =
        choose_fine n (is_on x w.marks) (p.process x now >>= after_region c p xs now) (p.process_each xs now) w
        (then_fine n (h.process x now w) (λ r u _. after_region_fine xs now r u)) (h.process_each xs now w)

    rules_fine : Fines c (rules c b p)
    rules_fine = record {
      block = block_fine;
      send = send_fine;
      search = search_fine;
      exit = exit_fine;
      exit_each = exit_each_fine;
      enter = enter_fine;
      enter_each = enter_each_fine;
      defaults = defaults_fine;
      play = play_fine;
      take = take_fine;
      process = process_fine;
      process_each = process_each_fine;
    }

  pub upto_fine : (k : ℕ) → Fines c (upto c b k)
  upto_fine zero = record {
    block = λ _ _ _ _ _. over;
    send = λ _ _ _ _. over;
    search = λ _ _ _ _ _. over;
    exit = λ _ _ _. over;
    exit_each = λ _ _ _. over;
    enter = λ _ _ _ _. over;
    enter_each = λ _ _ _ _. over;
    defaults = λ _ _ _. over;
    play = λ _ _ _ _ _. over;
    take = λ _ _ _ _ _ _. over;
    process = λ _ _ _. over;
    process_each = λ _ _ _. over;
  }
  upto_fine (suc k) = rules_fine (upto c b k) (upto_fine k)

-- the fault of a reaction
pub fault_fine : (n : Names) {A : Type 0} (r : Run A) (x : Moment) → Fine n Any r → moment_of r ≡ Some x
    → IsFaultOf n x.fault
fault_fine n (Ended a w) x f e =
    let g : record { world = w; fault = None } ≡ x = cc in subst (λ (y : Moment). IsFaultOf n y.fault) g tt
fault_fine n (Faulted y w) x (faults z v h) e =
    let g : record { world = w; fault = Some y } ≡ x = cc in subst (λ (q : Moment). IsFaultOf n q.fault) g h
fault_fine n Unfinished x f e = absurd cc

-- the fault of a start of a valid chart names a datum that is declared
pub start_faults : (c : Chart) → IsValid c → (b : Bounds) (x : Moment) → Gives (start_upto c b) x
    → IsFaultOf c.names x.fault
start_faults c v b x g =
    fault_fine c.names (start_upto c b g.height) x
    ((upto_fine c v b g.height).enter 0 0 (from_outside Start) (world_before c.tree c.names)) g.gives

-- the fault of a reaction of a valid chart names a datum that is declared
pub reaction_faults : (c : Chart) → IsValid c → (b : Bounds) (w : World) (e : Event) (x : Moment)
    → Gives (react_upto c b w e) x → IsFaultOf c.names x.fault
reaction_faults c v b w e x g =
    fault_fine c.names (react_upto c b w e g.height) x
    ((upto_fine c v b g.height).process 0 (from_outside e) (begun w)) g.gives
