-- A log has only assignments that the statements of the chart make.
use Rattle.std.proofs.Common.{ℕ, zero, suc, List, [], ◌∷◌, Option, Some, None, Bool, true, false, ◌≢◌}
use Rattle.std.specs.List.{AllByRecursion}
use Rattle.flow_base.specs.declared.bounds.Bounds.{Bounds}
use Rattle.flow_base.specs.declared.fault.Fault.{Fault}
use Rattle.flow_base.specs.declared.fault.Fault.TheVariants as faults
use Rattle.std.specs.Prelude.{◌==◌, nat_le}
use Rattle.active_config.specs.declared.comp.Comp.{Comp}
use Rattle.active_config.specs.declared.comp.Comp.TheVariants.{Leaf, Or, And}
use Rattle.active_config.specs.Marks.{is_on, is_bare, active_child, can_mark}
use Rattle.active_config.specs.Tree.{comp_of}
use Rattle.actions.specs.Exprs.{Expr, Stmt, Assign, Send, SendTo, Emit}
use Rattle.actions.specs.Changes.{set_mark}
use Rattle.actions.specs.World.{World, Life, On, Bare, lives, emitted}
use Rattle.actions.specs.Work as work
use Rattle.actions.specs.Work.{End, Done, Cut, Now, deeper}
use Rattle.checked_chart.specs.declared.parts.Dest.{Dest}
use Rattle.checked_chart.specs.declared.parts.Dest.TheVariants.{State, Junction}
use Rattle.checked_chart.specs.Chart.{Chart, Trans, node, junction}
use Rattle.checked_chart.specs.Homes.{child_toward}
use Rattle.sos_rules.specs.Parts.{Found, Fire, DeadEnd, No, Stop, Went, Stay, Out}
use Rattle.sos_rules.specs.Moves.{entered_in, remembered}
use Rattle.sos_rules.specs.Searches.{receiver, receives, event_fits, guard_holds}
use Rattle.counting_rules.specs.Counters.{Counters, of_root}
use Rattle.counting_log.specs.Work as logged
use Rattle.counting_log.specs.Rules as noting
use Rattle.counting_log.specs.Log.{Note, Entered, Processed, Assigned, Untouched}
use Rattle.counting_log.specs.Work.{Logged, Ended, Faulted, Unfinished}
use Rattle.counting_log.specs.Work.{then_do, with_log}
use Rattle.counting_log.specs.Rules.{Parts}
use Rattle.counting_log.specs.Assigned.{OnlyStmt, OnlyBlock, OnlyTrans, OnlyList, OnlyChart}

-- the log has only assignments to data with Q
abbrev pub OnlyLog : (ℕ → Type 0) → List Note → Type 0
OnlyLog Q [] = Unit {0}
OnlyLog Q (Entered x ∷ l) = OnlyLog Q l
OnlyLog Q (Processed e ∷ l) = OnlyLog Q l
OnlyLog Q (Assigned u ∷ l) = Q u × OnlyLog Q l

-- a run ends with such a log and with a result of which R holds, or it doesn't end
pub data Keeps (Q : ℕ → Type 0) {A : Type 0} (R : A → Type 0) : Logged A → Type 0 where
  ended : (a : A) (w : World) (l : List Note) → R a → OnlyLog Q l → Keeps Q R (Ended a w l)
  faulted : (x : Fault) (w : World) (l : List Note) → Keeps Q R (Faulted x w l)
  unfinished : Keeps Q R Unfinished

abbrev Any : {A : Type 0} → A → Type 0
Any a = Unit {0}

abbrev OnlyActions : (ℕ → Type 0) → List (List Stmt) → Type 0
OnlyActions Q actions = AllByRecursion (OnlyBlock Q) actions

-- the actions of a firing that was found
abbrev OnlyFound : (ℕ → Type 0) → Found → Type 0
OnlyFound Q (Fire d actions) = OnlyActions Q actions
OnlyFound Q DeadEnd = Unit {0}
OnlyFound Q No = Unit {0}
OnlyFound Q Stop = Unit {0}

module _ (Q : ℕ → Type 0) where
  then_keeps : {A B : Type 0} {R : A → Type 0} {S : B → Type 0} {m : Logged A} (f : A → logged.Work B) → Keeps Q R m
      → ((a : A) (w : World) (l : List Note) → R a → OnlyLog Q l → Keeps Q S (f a w l)) → Keeps Q S (then_do m f)
  then_keeps f (ended a w l r h) next = next a w l r h
  then_keeps f (faulted x w l) next = faulted x w l
  then_keeps f unfinished next = unfinished

  lift_keeps : {A : Type 0} (r : work.Run A) (l : List Note) → OnlyLog Q l → Keeps Q Any (with_log r l)
  lift_keeps (work.Ended a w) l h = ended a w l tt h
  lift_keeps (work.Faulted x w) l h = faulted x w l
  lift_keeps work.Unfinished l h = unfinished

  choose_keeps : {A : Type 0} {R : A → Type 0} (b : Bool) (m k : logged.Work A) (w : World) (l : List Note)
      → Keeps Q R (m w l) → Keeps Q R (k w l) → Keeps Q R (logged.choose b m k w l)
  choose_keeps true m k w l h i = h
  choose_keeps false m k w l h i = i

  done_keeps : {A : Type 0} (e : End) (a : A) (m : logged.Work A) (w : World) (l : List Note) → OnlyLog Q l
      → Keeps Q Any (m w l) → Keeps Q Any (logged.if_done e a m w l)
  done_keeps Done a m w l h i = i
  done_keeps Cut a m w l h i = ended a w l tt h

  some_keeps : {A : Type 0} {R : A → Type 0} (o : Option ℕ) (m : logged.Work A) (f : ℕ → logged.Work A) (w : World)
      (l : List Note) → Keeps Q R (m w l) → ((x : ℕ) → Keeps Q R (f x w l)) → Keeps Q R (logged.if_some o m f w l)
  some_keeps None m f w l h i = h
  some_keeps (Some x) m f w l h i = i x

  pub record Good (p : Parts) : Type 0 where
    pub block : (life : Life) (stmts : List Stmt) (now : Now) (w : World) (l : List Note) → OnlyBlock Q stmts → OnlyLog Q l
        → Keeps Q Any (p.block life stmts now w l)
    pub send : (e : ℕ) (to : Option ℕ) (now : Now) (w : World) (l : List Note) → OnlyLog Q l
        → Keeps Q Any (p.send e to now w l)
    pub search : (life : Life) (ts : List Trans) (now : Now) (w : World) (l : List Note) → OnlyList Q ts → OnlyLog Q l
        → Keeps Q (OnlyFound Q) (p.search life ts now w l)
    pub exit : (s : ℕ) (now : Now) (w : World) (l : List Note) → OnlyLog Q l → Keeps Q Any (p.exit s now w l)
    pub exit_each : (xs : List ℕ) (now : Now) (w : World) (l : List Note) → OnlyLog Q l
        → Keeps Q Any (p.exit_each xs now w l)
    pub enter : (s d : ℕ) (now : Now) (w : World) (l : List Note) → OnlyLog Q l → Keeps Q Any (p.enter s d now w l)
    pub enter_each : (xs : List ℕ) (d : ℕ) (now : Now) (w : World) (l : List Note) → OnlyLog Q l
        → Keeps Q Any (p.enter_each xs d now w l)
    pub defaults : (s : ℕ) (now : Now) (w : World) (l : List Note) → OnlyLog Q l → Keeps Q Any (p.defaults s now w l)
    pub play : (s : ℕ) (actions : List (List Stmt)) (now : Now) (w : World) (l : List Note) → OnlyActions Q actions
        → OnlyLog Q l → Keeps Q Any (p.play s actions now w l)
    pub take : (s d : ℕ) (actions : List (List Stmt)) (now : Now) (w : World) (l : List Note) → OnlyActions Q actions
        → OnlyLog Q l → Keeps Q Any (p.take s d actions now w l)
    pub process : (s : ℕ) (now : Now) (w : World) (l : List Note) → OnlyLog Q l → Keeps Q Any (p.process s now w l)
    pub process_each : (xs : List ℕ) (now : Now) (w : World) (l : List Note) → OnlyLog Q l
        → Keeps Q Any (p.process_each xs now w l)

module _ (Q : ℕ → Type 0) (c : Chart) (k : Counters) (b : Bounds) (ok : OnlyChart Q c) where
  module _ (p : Parts) (u : Good Q p) where
    pay_keeps : (w : World) (l : List Note) → OnlyLog Q l → Keeps Q Any (noting.pay b w l)
    pay_keeps w l h = lift_keeps Q _ l h

    alive_keeps : (life : Life) (w : World) (l : List Note) → OnlyLog Q l
        → Keeps Q Any (noting.while_alive c.tree life w l)
    alive_keeps life w l h =
        choose_keeps Q (lives c.tree life w.marks) (logged.give Done) (logged.give Cut) w l (ended Done w l tt h)
        (ended Cut w l tt h)

    assign_keeps : (v : ℕ) (e : Expr) (w : World) (l : List Note) → Q v → OnlyLog Q l → Keeps Q Any (noting.assign v e w l)
    assign_keeps v e w l q h =
        then_keeps Q _ (lift_keeps Q _ l h) (λ _ w' l' r h'. ended tt w' (Assigned v ∷ l') tt (q, h'))

    statement_keeps : (life : Life) (s : Stmt) (now : Now) (w : World) (l : List Note) → OnlyStmt Q s → OnlyLog Q l
        → Keeps Q Any (noting.statement c k b p life s now w l)
    statement_keeps life (Assign v e) now w l q h =
        then_keeps Q _ (assign_keeps v e w l q h) (λ _ w' l' r h'. ended Done w' l' tt h')
    statement_keeps life (Emit e) now w l q h =
        then_keeps Q (λ _ x m. Ended Done (emitted e x) m) (pay_keeps w l h)
        (λ _ w' l' r h'. ended Done (emitted e w') l' tt h')
    statement_keeps life (Send e) now w l q h =
        then_keeps Q _ (u.send e None now w l h) (λ _ w' l' r h'. alive_keeps life w' l' h')
    statement_keeps life (SendTo e s) now w l q h =
        then_keeps Q _ (u.send e (Some s) now w l h) (λ _ w' l' r h'. alive_keeps life w' l' h')

    block_keeps : (life : Life) (stmts : List Stmt) (now : Now) (w : World) (l : List Note) → OnlyBlock Q stmts
        → OnlyLog Q l → Keeps Q Any (noting.block_rule c k b p life stmts now w l)
    block_keeps life [] now w l q h = ended Done w l tt h
    block_keeps life (s ∷ rest) now w l q h =
        then_keeps Q _ (statement_keeps life s now w l q.0 h)
        (λ e w' l' r h'. done_keeps Q e Cut _ w' l' h' (u.block life rest now w' l' q.1 h'))

    -- the receiver is processed
    abbrev hears : Option ℕ → ℕ → Now → logged.Work (Unit {0})
    hears to e now w l = then_do (p.process (receiver to) (deeper e now) w l) (λ _. logged.nothing)

    hears_keeps : (to : Option ℕ) (e : ℕ) (now : Now) (w : World) (l : List Note) → OnlyLog Q l
        → Keeps Q Any (hears to e now w l)
    hears_keeps to e now w l h =
        then_keeps Q (λ _. logged.nothing) (u.process (receiver to) (deeper e now) w l h) (λ _ x m r i. ended tt x m tt i)

    send_keeps : (e : ℕ) (to : Option ℕ) (now : Now) (w : World) (l : List Note) → OnlyLog Q l
        → Keeps Q Any (noting.send_rule c k b p e to now w l)
    send_keeps e to now w l h =
        choose_keeps Q (nat_le b.depth now.depth) (logged.lift (work.fault faults.Depth))
        (λ x m. then_do (noting.pay b x m) (λ _ y n. logged.choose (receives to y) (hears to e now) logged.nothing y n)) w l
        (lift_keeps Q (work.fault faults.Depth w) l h)
        (then_keeps Q (λ _ y n. logged.choose (receives to y) (hears to e now) logged.nothing y n) (pay_keeps w l h)
        (λ _ w' l' r h'.
        choose_keeps Q (receives to w') (hears to e now) logged.nothing w' l' (hears_keeps to e now w' l' h')
        (ended tt w' l' tt h')))

    after_junction_keeps : (life : Life) (action : List Stmt) (rest : List Trans) (now : Now) (f : Found) (w : World)
        (l : List Note) → OnlyBlock Q action → OnlyList Q rest → OnlyFound Q f → OnlyLog Q l
        → Keeps Q (OnlyFound Q) (noting.after_junction c k b p life action rest now f w l)
    after_junction_keeps life action rest now (Fire d actions) w l q r f h = ended _ w l (q, f) h
    after_junction_keeps life action rest now DeadEnd w l q r f h = ended _ w l tt h
    after_junction_keeps life action rest now No w l q r f h = u.search life rest now w l r h
    after_junction_keeps life action rest now Stop w l q r f h = ended _ w l tt h

    visit_keeps : (life : Life) (action : List Stmt) (rest : List Trans) (now : Now) (ts : List Trans) (w : World)
        (l : List Note) → OnlyBlock Q action → OnlyList Q rest → OnlyList Q ts → OnlyLog Q l
        → Keeps Q (OnlyFound Q) (noting.visit c k b p life action rest now ts w l)
    visit_keeps life action rest now [] w l q r t h = ended _ w l tt h
    visit_keeps life action rest now (x ∷ ts) w l q r t h =
        then_keeps Q _ (u.search life (x ∷ ts) now w l t h)
        (λ f w' l' g h'. after_junction_keeps life action rest now f w' l' q r g h')

    at_dest_keeps : (life : Life) (action : List Stmt) (rest : List Trans) (now : Now) (d : Dest) (w : World)
        (l : List Note) → OnlyBlock Q action → OnlyList Q rest → OnlyLog Q l
        → Keeps Q (OnlyFound Q) (noting.at_dest c k b p life action rest now d w l)
    at_dest_keeps life action rest now (State d) w l q r h = ended _ w l (q, tt) h
    at_dest_keeps life action rest now (Junction j) w l q r h =
        then_keeps Q _ (pay_keeps w l h)
        (λ _ w' l' _ h'. visit_keeps life action rest now (junction c j) w' l' q r (ok.junctions j) h')

    after_condition_keeps : (life : Life) (t : Trans) (rest : List Trans) (now : Now) (e : End) (w : World)
        (l : List Note) → OnlyTrans Q t → OnlyList Q rest → OnlyLog Q l
        → Keeps Q (OnlyFound Q) (noting.after_condition c k b p life t rest now e w l)
    after_condition_keeps life t rest now Done w l q r h = at_dest_keeps life t.action rest now t.dest w l q.action r h
    after_condition_keeps life t rest now Cut w l q r h = ended _ w l tt h

    enabled_keeps : (t : Trans) (now : Now) (w : World) (l : List Note) → OnlyLog Q l
        → Keeps Q Any (noting.is_enabled t now w l)
    enabled_keeps t now w l h =
        choose_keeps Q (event_fits t.event now.event) (logged.lift (guard_holds t.guard)) (logged.give false) w l
        (lift_keeps Q (guard_holds t.guard w) l h) (ended false w l tt h)

    search_keeps : (life : Life) (ts : List Trans) (now : Now) (w : World) (l : List Note) → OnlyList Q ts → OnlyLog Q l
        → Keeps Q (OnlyFound Q) (noting.search_rule c k b p life ts now w l)
    search_keeps life [] now w l q h = ended No w l tt h
    search_keeps life (t ∷ ts) now w l q h =
        then_keeps Q _ (enabled_keeps t now w l h) (λ e w' l' _ h'.
        choose_keeps Q e
        (λ x m. then_do (p.block life t.condition now x m) (noting.after_condition c k b p life t ts now))
        (p.search life ts now) w' l'
        (then_keeps Q (noting.after_condition c k b p life t ts now)
        (u.block life t.condition now w' l' q.0.condition h')
        (λ e x m _ i. after_condition_keeps life t ts now e x m q.0 q.1 i))
        (u.search life ts now w' l' q.1 h'))

    exit_active_keeps : (s : ℕ) (now : Now) (w : World) (l : List Note) → OnlyLog Q l
        → Keeps Q Any (noting.exit_active c k b p s now w l)
    exit_active_keeps s now w l h =
        some_keeps Q (active_child c.tree s w.marks) logged.nothing (λ x. p.exit x now) w l (ended tt w l tt h)
        (λ x. u.exit x now w l h)

    exit_children_keeps : (s : ℕ) (now : Now) (o : Comp) (w : World) (l : List Note) → OnlyLog Q l
        → Keeps Q Any (noting.exit_children c k b p s now o w l)
    exit_children_keeps s now Leaf w l h = ended tt w l tt h
    exit_children_keeps s now Or w l h = exit_active_keeps s now w l h
    exit_children_keeps s now And w l h = u.exit_each _ now w l h

    bare_keeps : (s : ℕ) (m : logged.Work (Unit {0})) (w : World) (l : List Note) → OnlyLog Q l → Keeps Q Any (m w l)
        → Keeps Q Any (noting.if_bare c.tree s m w l)
    bare_keeps s m w l h i = choose_keeps Q (is_bare c.tree s w.marks) m logged.nothing w l i (ended tt w l tt h)

    exit_keeps : (s : ℕ) (now : Now) (w : World) (l : List Note) → OnlyLog Q l
        → Keeps Q Any (noting.exit_rule c k b p s now w l)
    exit_keeps s now w l h =
        let off : logged.Work (Unit {0}) = noting.if_bare c.tree s (logged.change (set_mark s false)) in
        let left : logged.Work (Unit {0}) = λ x m.
        then_do (p.block (Bare s) (node c s).exit now x m) (λ e. logged.if_done e tt off) in
        choose_keeps Q (is_on s w.marks)
        (λ x m. then_do (noting.exit_children c k b p s now (comp_of c.tree s) x m) (λ _. noting.if_bare c.tree s left))
        logged.nothing w l
        (then_keeps Q (λ _. noting.if_bare c.tree s left) (exit_children_keeps s now (comp_of c.tree s) w l h)
        (λ _ w' l' _ h'. bare_keeps s left w' l' h'
        (then_keeps Q (λ e. logged.if_done e tt off) (u.block (Bare s) (node c s).exit now w' l' (ok.nodes s).exit h')
        (λ e x m _ i. done_keeps Q e tt off x m i
        (bare_keeps s (logged.change (set_mark s false)) x m i (ended tt (set_mark s false x) m tt i)))))) (ended tt w l tt h)

    exit_each_keeps : (xs : List ℕ) (now : Now) (w : World) (l : List Note) → OnlyLog Q l
        → Keeps Q Any (noting.exit_each_rule c k b p xs now w l)
    exit_each_keeps [] now w l h = ended tt w l tt h
    exit_each_keeps (x ∷ xs) now w l h =
        then_keeps Q _ (u.exit x now w l h) (λ _ w' l' _ h'. u.exit_each xs now w' l' h')

    child_keeps : (s d : ℕ) (now : Now) (w : World) (l : List Note) → OnlyLog Q l
        → Keeps Q Any (logged.if_some (child_toward c.tree s d) logged.nothing (λ x. p.enter x d now) w l)
    child_keeps s d now w l h =
        some_keeps Q (child_toward c.tree s d) logged.nothing (λ x. p.enter x d now) w l (ended tt w l tt h)
        (λ x. u.enter x d now w l h)

    toward_keeps : (s d : ℕ) (now : Now) (w : World) (l : List Note) → OnlyLog Q l
        → Keeps Q Any (noting.enter_toward c k b p s d now w l)
    toward_keeps s d now w l h =
        choose_keeps Q (s == d) (p.defaults s now)
        (logged.if_some (child_toward c.tree s d) logged.nothing (λ x. p.enter x d now)) w l (u.defaults s now w l h)
        (child_keeps s d now w l h)

    inside_keeps : (s d : ℕ) (now : Now) (o : Comp) (w : World) (l : List Note) → OnlyLog Q l
        → Keeps Q Any (noting.enter_inside c k b p s d now o w l)
    inside_keeps s d now Leaf w l h = ended tt w l tt h
    inside_keeps s d now Or w l h = toward_keeps s d now w l h
    inside_keeps s d now And w l h = u.enter_each _ d now w l h

    reset_keeps : (s : ℕ) (w : World) (l : List Note) → OnlyLog Q l → Keeps Q Any (noting.reset_noted k s w l)
    reset_keeps s w l h = then_keeps Q _ (lift_keeps Q _ l h) (λ _ w' l' _ h'. ended tt w' (Entered s ∷ l') tt h')

    enter_keeps : (s d : ℕ) (now : Now) (w : World) (l : List Note) → OnlyLog Q l
        → Keeps Q Any (noting.enter_rule c k b p s d now w l)
    enter_keeps s d now w l h =
        let within : End → logged.Work (Unit {0}) = λ e.
        logged.if_done e tt (noting.enter_inside c k b p s d now (comp_of c.tree s)) in
        let entry : Unit {0} → logged.Work (Unit {0}) = λ _ x m.
        then_do (p.block (Bare s) (node c s).entry now x m) within in
        choose_keeps Q (can_mark c.tree s w.marks) (λ x m. then_do (noting.reset_noted k s (entered_in c s x) m) entry)
        logged.nothing w l
        (then_keeps Q entry (reset_keeps s (entered_in c s w) l h) (λ _ w' l' _ h'.
        then_keeps Q within (u.block (Bare s) (node c s).entry now w' l' (ok.nodes s).entry h') (λ e x m _ i.
        done_keeps Q e tt (noting.enter_inside c k b p s d now (comp_of c.tree s)) x m i
        (inside_keeps s d now (comp_of c.tree s) x m i)))) (ended tt w l tt h)

    enter_each_keeps : (xs : List ℕ) (d : ℕ) (now : Now) (w : World) (l : List Note) → OnlyLog Q l
        → Keeps Q Any (noting.enter_each_rule c k b p xs d now w l)
    enter_each_keeps [] d now w l h = ended tt w l tt h
    enter_each_keeps (x ∷ xs) d now w l h =
        then_keeps Q _ (u.enter x _ now w l h) (λ _ w' l' _ h'. u.enter_each xs d now w' l' h')

    after_default_keeps : (s : ℕ) (now : Now) (f : Found) (w : World) (l : List Note) → OnlyFound Q f → OnlyLog Q l
        → Keeps Q Any (noting.after_default c k b p s now f w l)
    after_default_keeps s now (Fire d actions) w l q h =
        then_keeps Q _ (u.play s actions now w l q h) (λ e w' l' _ h'.
        done_keeps Q e tt (logged.if_some (child_toward c.tree s d) logged.nothing (λ x. p.enter x d now)) w' l' h'
        (child_keeps s d now w' l' h'))
    after_default_keeps s now DeadEnd w l q h = ended tt w l tt h
    after_default_keeps s now No w l q h = ended tt w l tt h
    after_default_keeps s now Stop w l q h = ended tt w l tt h

    defaults_keeps : (s : ℕ) (now : Now) (w : World) (l : List Note) → OnlyLog Q l
        → Keeps Q Any (noting.defaults_rule c k b p s now w l)
    defaults_keeps s now w l h =
        some_keeps Q (remembered c s w) (noting.default_search c k b p s now) (λ x. p.enter x x now) w l
        (then_keeps Q (noting.after_default c k b p s now) (u.search (Bare s) (node c s).default now w l (ok.nodes s).default h)
        (λ f w' l' g h'. after_default_keeps s now f w' l' g h')) (λ x. u.enter x x now w l h)

    play_keeps : (s : ℕ) (actions : List (List Stmt)) (now : Now) (w : World) (l : List Note) → OnlyActions Q actions
        → OnlyLog Q l → Keeps Q Any (noting.play_rule c k b p s actions now w l)
    play_keeps s [] now w l q h = ended Done w l tt h
    play_keeps s ([] ∷ actions) now w l q h = u.play s actions now w l q.1 h
    play_keeps s ((x ∷ xs) ∷ actions) now w l q h =
        then_keeps Q _ (pay_keeps w l h) (λ _ w' l' _ h'.
        then_keeps Q _ (u.block (Bare s) (x ∷ xs) now w' l' q.0 h') (λ e y m _ i.
        done_keeps Q e Cut _ y m i (u.play s actions now y m q.1 i)))

    take_keeps : (s d : ℕ) (actions : List (List Stmt)) (now : Now) (w : World) (l : List Note) → OnlyActions Q actions
        → OnlyLog Q l → Keeps Q Any (noting.take_rule c k b p s d actions now w l)
    take_keeps s d actions now w l q h =
        then_keeps Q _ (exit_active_keeps s now w l h) (λ _ w' l' _ h'.
        bare_keeps s _ w' l' h' (then_keeps Q _ (u.play s actions now w' l' q h') (λ e x m _ i.
        done_keeps Q e tt _ x m i (bare_keeps s _ x m i (toward_keeps s d now x m i)))))

    from_child_keeps : (s : ℕ) (r : Went) (w : World) (l : List Note) → OnlyLog Q l
        → Keeps Q Any (noting.from_child s r w l)
    from_child_keeps s Stay w l h = ended _ w l tt h
    from_child_keeps s (Out d) w l h =
        choose_keeps Q (d == s) (logged.give Stay) (logged.give (Out d)) w l (ended Stay w l tt h) (ended (Out d) w l tt h)

    process_children_keeps : (s : ℕ) (now : Now) (o : Comp) (w : World) (l : List Note) → OnlyLog Q l
        → Keeps Q Any (noting.process_children c k b p s now o w l)
    process_children_keeps s now Leaf w l h = ended _ w l tt h
    process_children_keeps s now Or w l h =
        some_keeps Q (active_child c.tree s w.marks) (logged.give Stay)
        (λ x y m. then_do (p.process x now y m) (noting.from_child s)) w l (ended Stay w l tt h)
        (λ x. then_keeps Q (noting.from_child s) (u.process x now w l h) (λ r w' l' _ h'. from_child_keeps s r w' l' h'))
    process_children_keeps s now And w l h = u.process_each _ now w l h

    after_inner_keeps : (s : ℕ) (now : Now) (f : Found) (w : World) (l : List Note) → OnlyFound Q f → OnlyLog Q l
        → Keeps Q Any (noting.after_inner c k b p s now f w l)
    after_inner_keeps s now (Fire d actions) w l q h =
        then_keeps Q _ (u.take s d actions now w l q h) (λ _ w' l' _ h'. ended _ w' l' tt h')
    after_inner_keeps s now DeadEnd w l q h = process_children_keeps s now _ w l h
    after_inner_keeps s now No w l q h = process_children_keeps s now _ w l h
    after_inner_keeps s now Stop w l q h = ended _ w l tt h

    counted_keeps : (s : ℕ) (now : Now) (w : World) (l : List Note) → OnlyLog Q l
        → Keeps Q Any (of_root s (noting.count_noted k b now) logged.nothing w l)
    counted_keeps zero now w l h = lift_keeps Q _ (Processed now.event ∷ l) h
    counted_keeps (suc s) now w l h = ended tt w l tt h

    go_on_keeps : (s : ℕ) (now : Now) (w : World) (l : List Note) → OnlyLog Q l
        → Keeps Q Any (noting.go_on_inside c k b p s now w l)
    go_on_keeps s now w l h =
        then_keeps Q _ (u.block (On s) (node c s).during now w l (ok.nodes s).during h) (λ e w' l' _ h'.
        done_keeps Q e Stay _ w' l' h'
        (then_keeps Q _ (counted_keeps s now w' l' h') (λ _ x m _ i.
        then_keeps Q _ (u.search (On s) (node c s).inner now x m (ok.nodes s).inner i)
        (λ f y n g j. after_inner_keeps s now f y n g j))))

    after_outer_keeps : (s : ℕ) (now : Now) (f : Found) (w : World) (l : List Note) → OnlyFound Q f → OnlyLog Q l
        → Keeps Q Any (noting.after_outer c k b p s now f w l)
    after_outer_keeps s now (Fire d actions) w l q h =
        then_keeps Q _ (u.take _ d actions now w l q h) (λ _ w' l' _ h'. ended _ w' l' tt h')
    after_outer_keeps s now DeadEnd w l q h = go_on_keeps s now w l h
    after_outer_keeps s now No w l q h = go_on_keeps s now w l h
    after_outer_keeps s now Stop w l q h = ended _ w l tt h

    process_keeps : (s : ℕ) (now : Now) (w : World) (l : List Note) → OnlyLog Q l
        → Keeps Q Any (noting.process_rule c k b p s now w l)
    process_keeps s now w l h =
        then_keeps Q _ (u.search (On s) (node c s).outer now w l (ok.nodes s).outer h)
        (λ f w' l' g h'. after_outer_keeps s now f w' l' g h')

    after_region_keeps : (xs : List ℕ) (now : Now) (r : Went) (w : World) (l : List Note) → OnlyLog Q l
        → Keeps Q Any (noting.after_region c k b p xs now r w l)
    after_region_keeps xs now Stay w l h = u.process_each xs now w l h
    after_region_keeps xs now (Out s) w l h = ended _ w l tt h

    process_each_keeps : (xs : List ℕ) (now : Now) (w : World) (l : List Note) → OnlyLog Q l
        → Keeps Q Any (noting.process_each_rule c k b p xs now w l)
    process_each_keeps [] now w l h = ended _ w l tt h
    process_each_keeps (x ∷ xs) now w l h =
        choose_keeps Q (is_on x w.marks) (λ y m. then_do (p.process x now y m) (noting.after_region c k b p xs now))
        (p.process_each xs now) w l
        (then_keeps Q (noting.after_region c k b p xs now) (u.process x now w l h)
        (λ r w' l' _ h'. after_region_keeps xs now r w' l' h')) (u.process_each xs now w l h)

    good_rules : Good Q (noting.logged_rules c k b p)
    good_rules = record {
      block = block_keeps;
      send = send_keeps;
      search = search_keeps;
      exit = exit_keeps;
      exit_each = exit_each_keeps;
      enter = enter_keeps;
      enter_each = enter_each_keeps;
      defaults = defaults_keeps;
      play = play_keeps;
      take = take_keeps;
      process = process_keeps;
      process_each = process_each_keeps;
    }

  pub good_upto : (n : ℕ) → Good Q (noting.logged_upto c k b n)
  good_upto zero = record {
    block = λ _ _ _ _ _ _ _. unfinished;
    send = λ _ _ _ _ _ _. unfinished;
    search = λ _ _ _ _ _ _ _. unfinished;
    exit = λ _ _ _ _ _. unfinished;
    exit_each = λ _ _ _ _ _. unfinished;
    enter = λ _ _ _ _ _ _. unfinished;
    enter_each = λ _ _ _ _ _ _. unfinished;
    defaults = λ _ _ _ _ _. unfinished;
    play = λ _ _ _ _ _ _ _. unfinished;
    take = λ _ _ _ _ _ _ _ _. unfinished;
    process = λ _ _ _ _ _. unfinished;
    process_each = λ _ _ _ _ _. unfinished;
  }
  good_upto (suc n) = good_rules (noting.logged_upto c k b n) (good_upto n)

-- where nothing assigns to the datum it is untouched
pub untouched : (v : ℕ) (l : List Note) → OnlyLog (λ u. u ≢ v) l → Untouched v l
untouched v [] h = tt
untouched v (Entered x ∷ l) h = untouched v l h
untouched v (Processed e ∷ l) h = untouched v l h
untouched v (Assigned u ∷ l) h = (h.0, untouched v l h.1)
