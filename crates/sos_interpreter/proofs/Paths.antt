-- The rules one by one: what a rule gives, from what its parts give.
use Rattle.std.proofs.Common.{◌≡◌, ℕ, suc, List, [], ◌∷◌, reverse, Option, Some, None, Bool, true, false, refl, sym, ap}
use Rattle.std.proofs.Common.{subst}
use Rattle.std.specs.Prelude.{nat_le, ◌==◌, if◌then◌else◌}
use Rattle.flow_base.specs.declared.bounds.Bounds.{Bounds}
use Rattle.flow_base.specs.declared.fault.Fault.{Fault}
use Rattle.flow_base.specs.declared.fault.Fault.TheVariants as faults
use Rattle.active_config.specs.declared.comp.Comp.{Comp}
use Rattle.active_config.specs.declared.comp.Comp.TheVariants.{Leaf, Or, And}
use Rattle.active_config.specs.Tree.{children_of, comp_of}
use Rattle.active_config.specs.Marks.{is_on, is_bare, active_child, can_mark}
use Rattle.actions.specs.Exprs.{Expr, Stmt, Assign, Send, SendTo, Emit}
use Rattle.actions.specs.World.{World, emitted, Life, On, Bare}
use Rattle.actions.specs.declared.event.Event.TheVariants.{Named}
use Rattle.actions.specs.Changes.{set_mark}
use Rattle.actions.specs.Work.{Run, Ended, Faulted, then_do, give, choose, nothing, if_some, End, Done, Cut, Now}
use Rattle.actions.specs.Work.{deeper}
use Rattle.sos_interpreter.proofs.Settling.{settled_on, settling, settled_next, settled_now, settled_is, settled_then}
use Rattle.sos_interpreter.proofs.Settling.{settled_fault, settled_true, settled_false, settled_some, settled_none}
use Rattle.sos_interpreter.specs.Settled.{Settled}
use Rattle.sos_rules.specs.Moves.{exit_children, enter_toward, enter_inside, after_default, entered_in, default_search}
use Rattle.sos_rules.specs.Moves.{remembered}
use Rattle.sos_rules.specs.Parts.{Found, Fire, DeadEnd, No, Stop, Went, Stay, Out}
use Rattle.sos_rules.specs.Processing.{from_child, after_outer, after_inner, go_on_inside, process_children}
use Rattle.sos_rules.specs.Rules.{upto}
use Rattle.sos_rules.specs.Searches.{is_enabled, at_dest, visit, after_junction, assign, pay, while_alive, statement}
use Rattle.sos_rules.specs.Searches.{receives, receiver}
use Rattle.checked_chart.specs.Chart.{Chart, Trans, node, junction}
use Rattle.checked_chart.specs.Homes.{child_toward, path_in, home_of}
use Rattle.checked_chart.specs.declared.parts.Dest.{Dest}
use Rattle.checked_chart.specs.declared.parts.Dest.TheVariants.{State, Junction}
use Rattle.checked_chart.specs.declared.parts.ListKind.TheVariants.{Outer}

module _ (c : Chart) (b : Bounds) (now : Now) where
  -- a block: its end, one statement more, a life that is over, and a fault
  pub block_end : {life : Life} {w : World} → Settled (λ n. (upto c b n).block life [] now w) (Ended Done w)
  block_end {life} {w} = settled_next (λ n. (upto c b n).block life [] now w) _ (settled_now _)

  pub block_more : {life : Life} {s : Stmt} {rest : List Stmt} {w u : World} {r : Run End}
      → Settled (λ n. statement c b (upto c b n) life s now w) (Ended Done u)
      → Settled (λ n. (upto c b n).block life rest now u) r → Settled (λ n. (upto c b n).block life (s ∷ rest) now w) r
  block_more {life} {s} {rest} {w} {u} {r} h k =
      settled_next (λ n. (upto c b n).block life (s ∷ rest) now w) r (settled_then _ _ Done u r h k)

  pub block_cut : {life : Life} {s : Stmt} {rest : List Stmt} {w u : World}
      → Settled (λ n. statement c b (upto c b n) life s now w) (Ended Cut u)
      → Settled (λ n. (upto c b n).block life (s ∷ rest) now w) (Ended Cut u)
  block_cut {life} {s} {rest} {w} {u} h =
      settled_next (λ n. (upto c b n).block life (s ∷ rest) now w) _ (settled_then _ _ Cut u _ h (settled_now _))

  pub block_fault : {life : Life} {s : Stmt} {rest : List Stmt} {w u : World} {x : Fault}
      → Settled (λ n. statement c b (upto c b n) life s now w) (Faulted x u)
      → Settled (λ n. (upto c b n).block life (s ∷ rest) now w) (Faulted x u)
  block_fault {life} {s} {rest} {w} {u} {x} h =
      settled_next (λ n. (upto c b n).block life (s ∷ rest) now w) _ (settled_fault _ _ x u h)

  -- a statement that is another one has its outcome
  statement_is : (life : Life) {s s' : Stmt} (w : World) {r : Run End} → s ≡ s'
      → Settled (λ n. statement c b (upto c b n) life s' now w) r
      → Settled (λ n. statement c b (upto c b n) life s now w) r
  statement_is life w {r} is h =
      subst (λ s. Settled (λ n. statement c b (upto c b n) life s now w) r) (sym is) h

  -- assignments and outputs
  pub assign_done : (life : Life) {s : Stmt} {v : ℕ} {e : Expr} (w : World) {u : World} → s ≡ Assign v e
      → assign v e w ≡ Ended tt u → Settled (λ n. statement c b (upto c b n) life s now w) (Ended Done u)
  assign_done life w {u} is a = statement_is life w is (settled_then _ _ tt u _ (settled_is a) (settled_now _))

  pub assign_fault : (life : Life) {s : Stmt} {v : ℕ} {e : Expr} (w : World) {u : World} {x : Fault} → s ≡ Assign v e
      → assign v e w ≡ Faulted x u → Settled (λ n. statement c b (upto c b n) life s now w) (Faulted x u)
  assign_fault life w {u} {x} is a = statement_is life w is (settled_fault _ _ x u (settled_is a))

  pub emit_done : (life : Life) {s : Stmt} {e : ℕ} (w : World) {u : World} → s ≡ Emit e → pay b w ≡ Ended tt u
      → Settled (λ n. statement c b (upto c b n) life s now w) (Ended Done (emitted e u))
  emit_done life w {u} is p = statement_is life w is (settled_then _ _ tt u _ (settled_is p) (settled_now _))

  pub emit_fault : (life : Life) {s : Stmt} {e : ℕ} (w : World) {u : World} {x : Fault} → s ≡ Emit e
      → pay b w ≡ Faulted x u → Settled (λ n. statement c b (upto c b n) life s now w) (Faulted x u)
  emit_fault life w {u} {x} is p = statement_is life w is (settled_fault _ _ x u (settled_is p))

  -- a send in a statement, to the chart or to a state
  abbrev pub sent : Option ℕ → ℕ → Stmt
  sent None e = Send e
  sent (Some s) e = SendTo e s

  -- a send in a statement that faults, and one that ends as the test of the life says
  pub sent_fault : (life : Life) {s : Stmt} {e : ℕ} {to : Option ℕ} {w u : World} {x : Fault}
      → Settled (λ n. (upto c b n).send e to now w) (Faulted x u) → s ≡ sent to e
      → Settled (λ n. statement c b (upto c b n) life s now w) (Faulted x u)
  sent_fault life {to = None} {w} {u} {x} h is = statement_is life w is (settled_fault _ _ x u h)
  sent_fault life {to = Some y} {w} {u} {x} h is = statement_is life w is (settled_fault _ _ x u h)

  pub sent_ends : (life : Life) {s : Stmt} {e : ℕ} {to : Option ℕ} {w u : World} {end : End}
      → Settled (λ n. (upto c b n).send e to now w) (Ended tt u) → s ≡ sent to e
      → while_alive c.tree life u ≡ Ended end u
      → Settled (λ n. statement c b (upto c b n) life s now w) (Ended end u)
  sent_ends life {to = None} {w} {u} h is l =
      statement_is life w is (settled_then _ _ tt u _ h (settled_is l))
  sent_ends life {to = Some y} {w} {u} h is l =
      statement_is life w is (settled_then _ _ tt u _ h (settled_is l))

  -- a send: too deep, not paid, to a state that isn't active, and one that is processed
  pub send_too_deep : {e : ℕ} {to : Option ℕ} {w : World} → nat_le b.depth now.depth ≡ true
      → Settled (λ n. (upto c b n).send e to now w) (Faulted faults.Depth w)
  send_too_deep {e} {to} {w} d =
      settled_next (λ n. (upto c b n).send e to now w) _ (settled_true _ _ _ w _ d (settled_now _))

  pub send_fault : {e : ℕ} {to : Option ℕ} {w u : World} {x : Fault} → nat_le b.depth now.depth ≡ false
      → pay b w ≡ Faulted x u → Settled (λ n. (upto c b n).send e to now w) (Faulted x u)
  send_fault {e} {to} {w} {u} {x} d p =
      settled_next (λ n. (upto c b n).send e to now w) _
      (settled_false _ _ _ w _ d (settled_fault _ _ x u (settled_is p)))

  pub send_off : {e : ℕ} {to : Option ℕ} {w u : World} → nat_le b.depth now.depth ≡ false → pay b w ≡ Ended tt u
      → receives to u ≡ false → Settled (λ n. (upto c b n).send e to now w) (Ended tt u)
  send_off {e} {to} {w} {u} d p o =
      settled_next (λ n. (upto c b n).send e to now w) _
      (settled_false _ _ _ w _ d (settled_then _ _ tt u _ (settled_is p) (settled_false _ _ _ u _ o (settled_now _))))

  received : {e : ℕ} (to : Option ℕ) {s d : ℕ} {u : World} {r : Run Went} → s ≡ receiver to → d ≡ suc now.depth
      → Settled (λ n. (upto c b n).process s (record { event = Named e; depth = d }) u) r
      → Settled (λ n. (upto c b n).process (receiver to) (deeper e now) u) r
  received {e} to {s = s} {u = u} {r} is at h =
      subst (λ s. Settled (λ n. (upto c b n).process s (deeper e now) u) r) is
      (subst (λ d. Settled (λ n. (upto c b n).process s (record { event = Named e; depth = d }) u) r) at h)

  pub send_on : {e : ℕ} {to : Option ℕ} {s d : ℕ} {w u v : World} {went : Went} → nat_le b.depth now.depth ≡ false
      → pay b w ≡ Ended tt u → receives to u ≡ true → s ≡ receiver to → d ≡ suc now.depth
      → Settled (λ n. (upto c b n).process s (record { event = Named e; depth = d }) u) (Ended went v)
      → Settled (λ n. (upto c b n).send e to now w) (Ended tt v)
  send_on {e} {to} {w = w} {u} {v} {went} deep p o is at h =
      settled_next (λ n. (upto c b n).send e to now w) _ (settled_false _ _ _ w _ deep
      (settled_then _ _ tt u _ (settled_is p) (settled_true _ _ _ u _ o
      (settled_then _ _ went v _ (received to is at h) (settled_now _)))))

  pub send_on_fault : {e : ℕ} {to : Option ℕ} {s d : ℕ} {w u v : World} {x : Fault} → nat_le b.depth now.depth ≡ false
      → pay b w ≡ Ended tt u → receives to u ≡ true → s ≡ receiver to → d ≡ suc now.depth
      → Settled (λ n. (upto c b n).process s (record { event = Named e; depth = d }) u) (Faulted x v)
      → Settled (λ n. (upto c b n).send e to now w) (Faulted x v)
  send_on_fault {e} {to} {w = w} {u} {v} {x} deep p o is at h =
      settled_next (λ n. (upto c b n).send e to now w) _ (settled_false _ _ _ w _ deep
      (settled_then _ _ tt u _ (settled_is p) (settled_true _ _ _ u _ o
      (settled_fault _ _ x v (received to is at h)))))

  -- leaving a state: it isn't active, a child faults or stays active, and the exit action in its four outcomes
  pub exit_off : {s : ℕ} {w : World} → is_on s w.marks ≡ false → Settled (λ n. (upto c b n).exit s now w) (Ended tt w)
  exit_off {s} {w} o = settled_next (λ n. (upto c b n).exit s now w) _ (search (settling, o) depth 9)

  pub exit_children_fault : {s : ℕ} {w u : World} {x : Fault} → is_on s w.marks ≡ true
      → Settled (λ n. exit_children c (upto c b n) s now (comp_of c.tree s) w) (Faulted x u)
      → Settled (λ n. (upto c b n).exit s now w) (Faulted x u)
  exit_children_fault {s} {w} o h =
      settled_next (λ n. (upto c b n).exit s now w) _ (search (settled_true, settled_fault, o, h) depth 9)

  pub exit_not_bare : {s : ℕ} {w u : World} → is_on s w.marks ≡ true
      → Settled (λ n. exit_children c (upto c b n) s now (comp_of c.tree s) w) (Ended tt u)
      → is_bare c.tree s u.marks ≡ false → Settled (λ n. (upto c b n).exit s now w) (Ended tt u)
  exit_not_bare {s} {w} {u} o h k =
      settled_next (λ n. (upto c b n).exit s now w) _
      (settled_true _ _ _ w _ o (settled_then _ _ tt u _ h (settled_false _ _ _ u _ k (settled_now _))))

  pub exit_block_fault : {s : ℕ} {l : List Stmt} {w u v : World} {x : Fault} → l ≡ (node c s).exit
      → is_on s w.marks ≡ true → Settled (λ n. exit_children c (upto c b n) s now (comp_of c.tree s) w) (Ended tt u)
      → is_bare c.tree s u.marks ≡ true → Settled (λ n. (upto c b n).block (Bare s) l now u) (Faulted x v)
      → Settled (λ n. (upto c b n).exit s now w) (Faulted x v)
  exit_block_fault {s} {l} {w} {u} {v} {x} e o h k g =
      settled_next (λ n. (upto c b n).exit s now w) _ (settled_true _ _ _ w _ o
      (settled_then _ _ tt u _ h (settled_true _ _ _ u _ k
      (settled_fault _ _ x v (subst (λ l. Settled (λ n. (upto c b n).block (Bare s) l now u) (Faulted x v)) e g)))))

  pub exit_cut : {s : ℕ} {l : List Stmt} {w u v : World} → l ≡ (node c s).exit → is_on s w.marks ≡ true
      → Settled (λ n. exit_children c (upto c b n) s now (comp_of c.tree s) w) (Ended tt u)
      → is_bare c.tree s u.marks ≡ true → Settled (λ n. (upto c b n).block (Bare s) l now u) (Ended Cut v)
      → Settled (λ n. (upto c b n).exit s now w) (Ended tt v)
  exit_cut {s} {l} {w} {u} {v} e o h k g =
      settled_next (λ n. (upto c b n).exit s now w) _ (settled_true _ _ _ w _ o
      (settled_then _ _ tt u _ h (settled_true _ _ _ u _ k (settled_then _ _ Cut v _
      (subst (λ l. Settled (λ n. (upto c b n).block (Bare s) l now u) (Ended Cut v)) e g) (settled_now _)))))

  pub exit_kept : {s : ℕ} {l : List Stmt} {w u v : World} → l ≡ (node c s).exit → is_on s w.marks ≡ true
      → Settled (λ n. exit_children c (upto c b n) s now (comp_of c.tree s) w) (Ended tt u)
      → is_bare c.tree s u.marks ≡ true → Settled (λ n. (upto c b n).block (Bare s) l now u) (Ended Done v)
      → is_bare c.tree s v.marks ≡ false → Settled (λ n. (upto c b n).exit s now w) (Ended tt v)
  exit_kept {s} {l} {w} {u} {v} e o h k g q =
      settled_next (λ n. (upto c b n).exit s now w) _ (settled_true _ _ _ w _ o
      (settled_then _ _ tt u _ h (settled_true _ _ _ u _ k (settled_then _ _ Done v _
      (subst (λ l. Settled (λ n. (upto c b n).block (Bare s) l now u) (Ended Done v)) e g)
      (settled_false _ _ _ v _ q (settled_now _))))))

  pub exit_left : {s : ℕ} {l : List Stmt} {w u v : World} → l ≡ (node c s).exit → is_on s w.marks ≡ true
      → Settled (λ n. exit_children c (upto c b n) s now (comp_of c.tree s) w) (Ended tt u)
      → is_bare c.tree s u.marks ≡ true → Settled (λ n. (upto c b n).block (Bare s) l now u) (Ended Done v)
      → is_bare c.tree s v.marks ≡ true → Settled (λ n. (upto c b n).exit s now w) (Ended tt (set_mark s false v))
  exit_left {s} {l} {w} {u} {v} e o h k g q =
      settled_next (λ n. (upto c b n).exit s now w) _ (settled_true _ _ _ w _ o
      (settled_then _ _ tt u _ h (settled_true _ _ _ u _ k (settled_then _ _ Done v _
      (subst (λ l. Settled (λ n. (upto c b n).block (Bare s) l now u) (Ended Done v)) e g)
      (settled_true _ _ _ v _ q (settled_now _))))))

  -- leaving states one after another
  pub exit_each_end : {w : World} → Settled (λ n. (upto c b n).exit_each [] now w) (Ended tt w)
  exit_each_end {w} = settled_next (λ n. (upto c b n).exit_each [] now w) _ (settled_now _)

  pub exit_each_more : {x : ℕ} {xs : List ℕ} {w u : World} {r : Run (Unit {0})}
      → Settled (λ n. (upto c b n).exit x now w) (Ended tt u) → Settled (λ n. (upto c b n).exit_each xs now u) r
      → Settled (λ n. (upto c b n).exit_each (x ∷ xs) now w) r
  exit_each_more {x} {xs} {w} {u} {r} h k =
      settled_next (λ n. (upto c b n).exit_each (x ∷ xs) now w) r (settled_then _ _ tt u r h k)

  pub exit_each_fault : {x : ℕ} {xs : List ℕ} {w u : World} {f : Fault}
      → Settled (λ n. (upto c b n).exit x now w) (Faulted f u)
      → Settled (λ n. (upto c b n).exit_each (x ∷ xs) now w) (Faulted f u)
  exit_each_fault {x} {xs} {w} h =
      settled_next (λ n. (upto c b n).exit_each (x ∷ xs) now w) _ (search (settled_fault, h))

  -- leaving the active child, and the children of a leaf, an OR and an AND
  pub exit_active_one : (s : ℕ) {x : ℕ} {w : World} {r : Run (Unit {0})} → Some x ≡ active_child c.tree s w.marks
      → Settled (λ n. (upto c b n).exit x now w) r
      → Settled (λ n. if_some (active_child c.tree s w.marks) nothing (λ x. (upto c b n).exit x now) w) r
  exit_active_one s {x} {w} {r} e h =
      settled_some (active_child c.tree s w.marks) x (λ n. nothing) (λ n x. (upto c b n).exit x now) w r (sym e) h

  pub exit_active_none : (s : ℕ) {w : World} → None ≡ active_child c.tree s w.marks
      → Settled (λ n. if_some (active_child c.tree s w.marks) nothing (λ x. (upto c b n).exit x now) w) (Ended tt w)
  exit_active_none s {w} e =
      settled_none (active_child c.tree s w.marks) (λ n. nothing) (λ n x. (upto c b n).exit x now) w _ (sym e)
      (settled_now _)

  pub exit_children_leaf : (s : ℕ) {o : Comp} {w : World} → Leaf ≡ o
      → Settled (λ n. exit_children c (upto c b n) s now o w) (Ended tt w)
  exit_children_leaf s {o} {w} e =
      subst (λ o. Settled (λ n. exit_children c (upto c b n) s now o w) (Ended tt w)) e (settled_now _)

  pub exit_children_or : (s : ℕ) {o : Comp} (w : World) {r : Run (Unit {0})} → Or ≡ o
      → Settled (λ n. if_some (active_child c.tree s w.marks) nothing (λ x. (upto c b n).exit x now) w) r
      → Settled (λ n. exit_children c (upto c b n) s now o w) r
  exit_children_or s {o} w {r} e h = subst (λ o. Settled (λ n. exit_children c (upto c b n) s now o w) r) e h

  pub exit_children_and : (s : ℕ) {o : Comp} {w : World} {r : Run (Unit {0})} {xs : List ℕ} → And ≡ o
      → xs ≡ reverse (children_of c.tree s) → Settled (λ n. (upto c b n).exit_each xs now w) r
      → Settled (λ n. exit_children c (upto c b n) s now o w) r
  exit_children_and s {o} {w} {r} {xs} e k h =
      subst (λ o. Settled (λ n. exit_children c (upto c b n) s now o w) r) e
      (subst (λ xs. Settled (λ n. (upto c b n).exit_each xs now w) r) k h)

  -- a search: no transition is left, one isn't enabled, or one faults or is stopped
  pub search_end : {life : Life} {w : World} → Settled (λ n. (upto c b n).search life [] now w) (Ended No w)
  search_end {life} {w} = settled_next (λ n. (upto c b n).search life [] now w) _ (settled_now _)

  pub search_disabled : {life : Life} {t : Trans} {ts : List Trans} {w : World} {r : Run Found}
      → is_enabled t now w ≡ Ended false w → Settled (λ n. (upto c b n).search life ts now w) r
      → Settled (λ n. (upto c b n).search life (t ∷ ts) now w) r
  search_disabled {life} {t} {ts} {w} {r} e h =
      settled_next (λ n. (upto c b n).search life (t ∷ ts) now w) r (settled_then _ _ false w r (settled_is e) h)

  pub search_guard_fault : {life : Life} {t : Trans} {ts : List Trans} {w u : World} {x : Fault}
      → is_enabled t now w ≡ Faulted x u → Settled (λ n. (upto c b n).search life (t ∷ ts) now w) (Faulted x u)
  search_guard_fault {life} {t} {ts} {w} {u} {x} e =
      settled_next (λ n. (upto c b n).search life (t ∷ ts) now w) _ (settled_fault _ _ x u (settled_is e))

  pub search_block_fault : {life : Life} {t : Trans} {ts : List Trans} {w u : World} {x : Fault}
      → is_enabled t now w ≡ Ended true w → Settled (λ n. (upto c b n).block life t.condition now w) (Faulted x u)
      → Settled (λ n. (upto c b n).search life (t ∷ ts) now w) (Faulted x u)
  search_block_fault {life} {t} {ts} {w} {u} {x} e h =
      settled_next (λ n. (upto c b n).search life (t ∷ ts) now w) _
      (settled_then _ _ true w _ (settled_is e) (settled_fault _ _ x u h))

  pub search_stop : {life : Life} {t : Trans} {ts : List Trans} {w u : World} → is_enabled t now w ≡ Ended true w
      → Settled (λ n. (upto c b n).block life t.condition now w) (Ended Cut u)
      → Settled (λ n. (upto c b n).search life (t ∷ ts) now w) (Ended Stop u)
  search_stop {life} {t} {ts} {w} {u} e h =
      settled_next (λ n. (upto c b n).search life (t ∷ ts) now w) _
      (settled_then _ _ true w _ (settled_is e) (settled_then _ _ Cut u _ h (settled_now _)))

  -- an enabled transition whose condition block was done goes to its destination
  pub search_goes : {life : Life} {t : Trans} {ts : List Trans} {w u : World} {d : Dest} {r : Run Found}
      → is_enabled t now w ≡ Ended true w → Settled (λ n. (upto c b n).block life t.condition now w) (Ended Done u)
      → d ≡ t.dest → Settled (λ n. at_dest c b (upto c b n) life t.action ts now d u) r
      → Settled (λ n. (upto c b n).search life (t ∷ ts) now w) r
  search_goes {life} {t} {ts} {w} {u} {d} {r} e h k g =
      settled_next (λ n. (upto c b n).search life (t ∷ ts) now w) r
      (settled_then _ _ true w _ (settled_is e) (settled_then _ _ Done u _ h
      (subst (λ d. Settled (λ n. at_dest c b (upto c b n) life t.action ts now d u) r) k g)))

  -- the destination of a transition: a state, or a junction that can't be paid, is a dead end, or is searched
  pub dest_state : (life : Life) (action : List Stmt) (ts : List Trans) (d : ℕ) (w : World)
      → Settled (λ n. at_dest c b (upto c b n) life action ts now (State d) w) (Ended (Fire d (action ∷ [])) w)
  dest_state life action ts d w = settled_now _

  pub dest_fault : (life : Life) (action : List Stmt) (ts : List Trans) (j : ℕ) (w u : World) (x : Fault)
      → pay b w ≡ Faulted x u → Settled (λ n. at_dest c b (upto c b n) life action ts now (Junction j) w) (Faulted x u)
  dest_fault life action ts j w u x p = settled_fault _ _ x u (settled_is p)

  pub dest_dead_end : (life : Life) (action : List Stmt) (ts : List Trans) (j : ℕ) (w u : World) → pay b w ≡ Ended tt u
      → [] ≡ junction c j → Settled (λ n. at_dest c b (upto c b n) life action ts now (Junction j) w) (Ended DeadEnd u)
  dest_dead_end life action ts j w u p e =
      settled_then _ _ tt u _ (settled_is p)
      (subst (λ l. Settled (λ n. visit c b (upto c b n) life action ts now l u) (Ended DeadEnd u)) e (settled_now _))

  visit_some : (life : Life) (action : List Stmt) (ts : List Trans) (list : List Trans) (u : World) (q r : Run Found)
      → (list ≡ [] → ⊥) → Settled (λ n. (upto c b n).search life list now u) q
      → Settled (λ n. then_do q (after_junction c b (upto c b n) life action ts now)) r
      → Settled (λ n. visit c b (upto c b n) life action ts now list u) r
  visit_some life action ts [] u q r e h k = absurd (e refl)
  visit_some life action ts (t ∷ list) u q r e h k = settled_on _ _ q r h k

  pub dest_visit : (life : Life) (action : List Stmt) (ts : List Trans) (j : ℕ) (list : List Trans) (w u : World)
      (q r : Run Found)
      → pay b w ≡ Ended tt u → list ≡ junction c j → (list ≡ [] → ⊥)
      → Settled (λ n. (upto c b n).search life list now u) q
      → Settled (λ n. then_do q (after_junction c b (upto c b n) life action ts now)) r
      → Settled (λ n. at_dest c b (upto c b n) life action ts now (Junction j) w) r
  dest_visit life action ts j list w u q r p e some h k =
      settled_then _ _ tt u _ (settled_is p) (subst
      (λ l. Settled (λ n. visit c b (upto c b n) life action ts now l u) r) e
      (visit_some life action ts list u q r some h k))

  -- entering a state: it can't be marked, and the entry action in its three outcomes
  pub enter_no : {s d : ℕ} {w : World} → can_mark c.tree s w.marks ≡ false
      → Settled (λ n. (upto c b n).enter s d now w) (Ended tt w)
  enter_no {s} {d} {w} e =
      settled_next (λ n. (upto c b n).enter s d now w) _ (settled_false _ _ _ w _ e (settled_now _))

  module _ {s : ℕ} (d : ℕ) {l : List Stmt} (w : World) {u : World} (e : l ≡ (node c s).entry)
      (can : can_mark c.tree s w.marks ≡ true) (m : u ≡ entered_in c s w) where
    entry_of : {r : Run End} → Settled (λ n. (upto c b n).block (Bare s) l now u) r
        → Settled (λ n. (upto c b n).block (Bare s) (node c s).entry now (entered_in c s w)) r
    entry_of {r} h =
        subst (λ v. Settled (λ n. (upto c b n).block (Bare s) (node c s).entry now v) r) m
        (subst (λ l. Settled (λ n. (upto c b n).block (Bare s) l now u) r) e h)

    pub enter_fault : {v : World} {x : Fault} → Settled (λ n. (upto c b n).block (Bare s) l now u) (Faulted x v)
        → Settled (λ n. (upto c b n).enter s d now w) (Faulted x v)
    enter_fault {v} {x} h =
        settled_next (λ n. (upto c b n).enter s d now w) _
        (settled_true _ _ _ w _ can (settled_fault _ _ x v (entry_of h)))

    pub enter_cut : {v : World} → Settled (λ n. (upto c b n).block (Bare s) l now u) (Ended Cut v)
        → Settled (λ n. (upto c b n).enter s d now w) (Ended tt v)
    enter_cut {v} h =
        settled_next (λ n. (upto c b n).enter s d now w) _
        (settled_true _ _ _ w _ can (settled_then _ _ Cut v _ (entry_of h) (settled_now _)))

    pub enter_done : {v : World} {r : Run (Unit {0})}
        → Settled (λ n. (upto c b n).block (Bare s) l now u) (Ended Done v)
        → Settled (λ n. enter_inside c (upto c b n) s d now (comp_of c.tree s) v) r
        → Settled (λ n. (upto c b n).enter s d now w) r
    enter_done {v} h k =
        settled_next (λ n. (upto c b n).enter s d now w) _
        (settled_true _ _ _ w _ can (settled_then _ _ Done v _ (entry_of h) k))

  -- entering the children of a leaf, an OR and an AND
  pub inside_leaf : (s d : ℕ) {o : Comp} {w : World} → Leaf ≡ o
      → Settled (λ n. enter_inside c (upto c b n) s d now o w) (Ended tt w)
  inside_leaf s d {o} {w} e =
      subst (λ o. Settled (λ n. enter_inside c (upto c b n) s d now o w) (Ended tt w)) e (settled_now _)

  pub inside_or : (s d : ℕ) {o : Comp} (w : World) {r : Run (Unit {0})} → Or ≡ o
      → Settled (λ n. enter_toward c (upto c b n) s d now w) r
      → Settled (λ n. enter_inside c (upto c b n) s d now o w) r
  inside_or s d {o} w {r} e h = subst (λ o. Settled (λ n. enter_inside c (upto c b n) s d now o w) r) e h

  pub inside_each : (s : ℕ) {d : ℕ} {o : Comp} {w : World} {r : Run (Unit {0})} {xs : List ℕ} → And ≡ o
      → xs ≡ children_of c.tree s → Settled (λ n. (upto c b n).enter_each xs d now w) r
      → Settled (λ n. enter_inside c (upto c b n) s d now o w) r
  inside_each s {d} {o} {w} {r} {xs} e k h =
      subst (λ o. Settled (λ n. enter_inside c (upto c b n) s d now o w) r) e
      (subst (λ xs. Settled (λ n. (upto c b n).enter_each xs d now w) r) k h)

  -- entering states one after another
  pub enter_each_end : {d : ℕ} {w : World} → Settled (λ n. (upto c b n).enter_each [] d now w) (Ended tt w)
  enter_each_end {d} {w} = settled_next (λ n. (upto c b n).enter_each [] d now w) _ (settled_now _)

  pub enter_each_more : {x to d : ℕ} {xs : List ℕ} {w u : World} {r : Run (Unit {0})} → to ≡ path_in c.tree x d
      → Settled (λ n. (upto c b n).enter x to now w) (Ended tt u) → Settled (λ n. (upto c b n).enter_each xs d now u) r
      → Settled (λ n. (upto c b n).enter_each (x ∷ xs) d now w) r
  enter_each_more {x} {d} {xs} {w} {u} {r} e h k =
      settled_next (λ n. (upto c b n).enter_each (x ∷ xs) d now w) r
      (settled_then _ _ tt u r (subst (λ t. Settled (λ n. (upto c b n).enter x t now w) (Ended tt u)) e h) k)

  pub enter_each_fault : {x to d : ℕ} {xs : List ℕ} {w u : World} {f : Fault} → to ≡ path_in c.tree x d
      → Settled (λ n. (upto c b n).enter x to now w) (Faulted f u)
      → Settled (λ n. (upto c b n).enter_each (x ∷ xs) d now w) (Faulted f u)
  enter_each_fault {x} {d} {xs} {w} {u} {f} e h =
      settled_next (λ n. (upto c b n).enter_each (x ∷ xs) d now w) _
      (settled_fault _ _ f u (subst (λ t. Settled (λ n. (upto c b n).enter x t now w) (Faulted f u)) e h))

  -- entering the child towards a state, where there is one
  pub toward_one : (s : ℕ) {d x : ℕ} {w : World} {r : Run (Unit {0})} → Some x ≡ child_toward c.tree s d
      → Settled (λ n. (upto c b n).enter x d now w) r
      → Settled (λ n. if_some (child_toward c.tree s d) nothing (λ x. (upto c b n).enter x d now) w) r
  toward_one s {d} {x} {w} {r} e h =
      settled_some (child_toward c.tree s d) x (λ n. nothing) (λ n x. (upto c b n).enter x d now) w r (sym e) h

  pub toward_none : (s d : ℕ) {w : World} → None ≡ child_toward c.tree s d
      → Settled (λ n. if_some (child_toward c.tree s d) nothing (λ x. (upto c b n).enter x d now) w) (Ended tt w)
  toward_none s d {w} e =
      settled_none (child_toward c.tree s d) (λ n. nothing) (λ n x. (upto c b n).enter x d now) w _ (sym e)
      (settled_now _)

  module _ {s : ℕ} {l : List Trans} {w : World} (e : l ≡ (node c s).default) where
    default_of : {r : Run Found} → Settled (λ n. (upto c b n).search (Bare s) l now w) r
        → Settled (λ n. (upto c b n).search (Bare s) (node c s).default now w) r
    default_of {r} h = subst (λ l. Settled (λ n. (upto c b n).search (Bare s) l now w) r) e h

    -- the default list of an OR is searched
    pub default_fault : {u : World} {x : Fault} → Settled (λ n. (upto c b n).search (Bare s) l now w) (Faulted x u)
        → Settled (λ n. default_search c (upto c b n) s now w) (Faulted x u)
    default_fault {u} {x} h = settled_fault _ _ x u (default_of h)

    pub default_after : {f : Found} {u : World} {r : Run (Unit {0})}
        → Settled (λ n. (upto c b n).search (Bare s) l now w) (Ended f u)
        → Settled (λ n. after_default c (upto c b n) s now f u) r
        → Settled (λ n. default_search c (upto c b n) s now w) r
    default_after {f} {u} {r} h k = settled_then _ _ f u r (default_of h) k

  -- an OR with no remembered child searches its default list, and one with such a child goes back to it
  pub defaults_search : {s : ℕ} {w : World} {r : Run (Unit {0})} → None ≡ remembered c s w
      → Settled (λ n. default_search c (upto c b n) s now w) r → Settled (λ n. (upto c b n).defaults s now w) r
  defaults_search {s} {w} {r} e h =
      settled_next (λ n. (upto c b n).defaults s now w) r (settled_none (remembered c s w)
      (λ n. default_search c (upto c b n) s now) (λ n x. (upto c b n).enter x x now) w r (sym e) h)

  pub defaults_return : {s x : ℕ} {w : World} {r : Run (Unit {0})} → Some x ≡ remembered c s w
      → Settled (λ n. (upto c b n).enter x x now w) r → Settled (λ n. (upto c b n).defaults s now w) r
  defaults_return {s} {x} {w} {r} e h =
      settled_next (λ n. (upto c b n).defaults s now w) r (settled_some (remembered c s w) x
      (λ n. default_search c (upto c b n) s now) (λ n x. (upto c b n).enter x x now) w r (sym e) h)

  played : {s : ℕ} {acts actions : List (List Stmt)} {w : World} {r : Run End} → acts ≡ actions
      → Settled (λ n. (upto c b n).play s acts now w) r → Settled (λ n. (upto c b n).play s actions now w) r
  played {s} {w = w} {r} same h = subst (λ l. Settled (λ n. (upto c b n).play s l now w) r) same h

  -- the default transition that was found: its actions in three outcomes
  pub fired_fault : {s : ℕ} (d : ℕ) {acts actions : List (List Stmt)} {w u : World} {x : Fault} → acts ≡ actions
      → Settled (λ n. (upto c b n).play s acts now w) (Faulted x u)
      → Settled (λ n. after_default c (upto c b n) s now (Fire d actions) w) (Faulted x u)
  fired_fault d {u = u} {x} same h = settled_fault _ _ x u (played same h)

  pub fired_cut : {s : ℕ} (d : ℕ) {acts actions : List (List Stmt)} {w u : World} → acts ≡ actions
      → Settled (λ n. (upto c b n).play s acts now w) (Ended Cut u)
      → Settled (λ n. after_default c (upto c b n) s now (Fire d actions) w) (Ended tt u)
  fired_cut d {u = u} same h = settled_then _ _ Cut u _ (played same h) (settled_now _)

  pub fired_done : {s : ℕ} (d : ℕ) {acts actions : List (List Stmt)} {w u : World} {r : Run (Unit {0})} → acts ≡ actions
      → Settled (λ n. (upto c b n).play s acts now w) (Ended Done u)
      → Settled (λ n. if_some (child_toward c.tree s d) nothing (λ x. (upto c b n).enter x d now) u) r
      → Settled (λ n. after_default c (upto c b n) s now (Fire d actions) w) r
  fired_done d {u = u} same h k = settled_then _ _ Done u _ (played same h) k

  module _ {s d : ℕ} {actions : List (List Stmt)} {w : World} where
    -- taking a transition: the old states are left, the actions are played, and the new states are entered
    pub take_exit_fault : {u : World} {x : Fault}
        → Settled (λ n. if_some (active_child c.tree s w.marks) nothing (λ x. (upto c b n).exit x now) w) (Faulted x u)
        → Settled (λ n. (upto c b n).take s d actions now w) (Faulted x u)
    take_exit_fault {u} {x} h = settled_next (λ n. (upto c b n).take s d actions now w) _ (settled_fault _ _ x u h)

    module _ {u : World} (h : Settled
        (λ n. if_some (active_child c.tree s w.marks) nothing (λ x. (upto c b n).exit x now) w) (Ended tt u)) where
      pub take_not_bare : is_bare c.tree s u.marks ≡ false
          → Settled (λ n. (upto c b n).take s d actions now w) (Ended tt u)
      take_not_bare e =
          settled_next (λ n. (upto c b n).take s d actions now w) _
          (settled_then _ _ tt u _ h (settled_false _ _ _ u _ e (settled_now _)))

      pub take_play_fault : {v : World} {x : Fault} → is_bare c.tree s u.marks ≡ true
          → Settled (λ n. (upto c b n).play s actions now u) (Faulted x v)
          → Settled (λ n. (upto c b n).take s d actions now w) (Faulted x v)
      take_play_fault {v} {x} e k =
          settled_next (λ n. (upto c b n).take s d actions now w) _
          (settled_then _ _ tt u _ h (settled_true _ _ _ u _ e (settled_fault _ _ x v k)))

      pub take_cut : {v : World} → is_bare c.tree s u.marks ≡ true
          → Settled (λ n. (upto c b n).play s actions now u) (Ended Cut v)
          → Settled (λ n. (upto c b n).take s d actions now w) (Ended tt v)
      take_cut {v} e k =
          settled_next (λ n. (upto c b n).take s d actions now w) _
          (settled_then _ _ tt u _ h (settled_true _ _ _ u _ e (settled_then _ _ Cut v _ k (settled_now _))))

      pub take_left : {v : World} → is_bare c.tree s u.marks ≡ true
          → Settled (λ n. (upto c b n).play s actions now u) (Ended Done v) → is_bare c.tree s v.marks ≡ false
          → Settled (λ n. (upto c b n).take s d actions now w) (Ended tt v)
      take_left {v} e k f =
          settled_next (λ n. (upto c b n).take s d actions now w) _
          (settled_then _ _ tt u _ h
          (settled_true _ _ _ u _ e (settled_then _ _ Done v _ k (settled_false _ _ _ v _ f (settled_now _)))))

      pub take_enters : {v : World} {r : Run (Unit {0})} → is_bare c.tree s u.marks ≡ true
          → Settled (λ n. (upto c b n).play s actions now u) (Ended Done v) → is_bare c.tree s v.marks ≡ true
          → Settled (λ n. enter_toward c (upto c b n) s d now v) r
          → Settled (λ n. (upto c b n).take s d actions now w) r
      take_enters {v} e k f q =
          settled_next (λ n. (upto c b n).take s d actions now w) _
          (settled_then _ _ tt u _ h
          (settled_true _ _ _ u _ e (settled_then _ _ Done v _ k (settled_true _ _ _ v _ f q))))

  -- playing actions: none is left, an empty one, and one in its four outcomes
  pub play_end : {s : ℕ} {w : World} → Settled (λ n. (upto c b n).play s [] now w) (Ended Done w)
  play_end {s} {w} = settled_next (λ n. (upto c b n).play s [] now w) _ (settled_now _)

  pub play_skip : {s : ℕ} {a : List Stmt} {actions : List (List Stmt)} {w : World} {r : Run End} → a ≡ []
      → Settled (λ n. (upto c b n).play s actions now w) r → Settled (λ n. (upto c b n).play s (a ∷ actions) now w) r
  play_skip {s} {a = []} {actions} {w} {r} e h = settled_next (λ n. (upto c b n).play s ([] ∷ actions) now w) r h
  play_skip {a = x ∷ xs} e h = absurd cc

  pub play_pay_fault : {s : ℕ} {a : List Stmt} {actions : List (List Stmt)} {w u : World} {x : Fault} → (a ≡ [] → ⊥)
      → pay b w ≡ Faulted x u → Settled (λ n. (upto c b n).play s (a ∷ actions) now w) (Faulted x u)
  play_pay_fault {a = []} e p = absurd (e refl)
  play_pay_fault {s} {a = y ∷ ys} {actions} {w} {u} {x} e p =
      settled_next (λ n. (upto c b n).play s ((y ∷ ys) ∷ actions) now w) _ (settled_fault _ _ x u (settled_is p))

  pub play_fault : {s : ℕ} {a : List Stmt} {actions : List (List Stmt)} {w u v : World} {x : Fault} → (a ≡ [] → ⊥)
      → pay b w ≡ Ended tt u → Settled (λ n. (upto c b n).block (Bare s) a now u) (Faulted x v)
      → Settled (λ n. (upto c b n).play s (a ∷ actions) now w) (Faulted x v)
  play_fault {a = []} e p h = absurd (e refl)
  play_fault {s} {a = y ∷ ys} {actions} {w} {u} {v} {x} e p h =
      settled_next (λ n. (upto c b n).play s ((y ∷ ys) ∷ actions) now w) _
      (settled_then _ _ tt u _ (settled_is p) (settled_fault _ _ x v h))

  pub play_cut : {s : ℕ} {a : List Stmt} {actions : List (List Stmt)} {w u v : World} → (a ≡ [] → ⊥)
      → pay b w ≡ Ended tt u → Settled (λ n. (upto c b n).block (Bare s) a now u) (Ended Cut v)
      → Settled (λ n. (upto c b n).play s (a ∷ actions) now w) (Ended Cut v)
  play_cut {a = []} e p h = absurd (e refl)
  play_cut {s} {a = y ∷ ys} {actions} {w} {u} {v} e p h =
      settled_next (λ n. (upto c b n).play s ((y ∷ ys) ∷ actions) now w) _
      (settled_then _ _ tt u _ (settled_is p) (settled_then _ _ Cut v _ h (settled_now _)))

  pub play_more : {s : ℕ} {a : List Stmt} {actions : List (List Stmt)} {w u v : World} {r : Run End} → (a ≡ [] → ⊥)
      → pay b w ≡ Ended tt u → Settled (λ n. (upto c b n).block (Bare s) a now u) (Ended Done v)
      → Settled (λ n. (upto c b n).play s actions now v) r → Settled (λ n. (upto c b n).play s (a ∷ actions) now w) r
  play_more {a = []} e p h k = absurd (e refl)
  play_more {s} {a = y ∷ ys} {actions} {w} {u} {v} e p h k =
      settled_next (λ n. (upto c b n).play s ((y ∷ ys) ∷ actions) now w) _
      (settled_then _ _ tt u _ (settled_is p) (settled_then _ _ Done v _ h k))

  module _ {s : ℕ} {l : List Trans} {w : World} (e : l ≡ (node c s).outer) where
    outer_of : {r : Run Found} → Settled (λ n. (upto c b n).search (On s) l now w) r
        → Settled (λ n. (upto c b n).search (On s) (node c s).outer now w) r
    outer_of {r} h = subst (λ l. Settled (λ n. (upto c b n).search (On s) l now w) r) e h

    -- processing a state: its outer list is searched
    pub process_fault : {u : World} {x : Fault} → Settled (λ n. (upto c b n).search (On s) l now w) (Faulted x u)
        → Settled (λ n. (upto c b n).process s now w) (Faulted x u)
    process_fault {u} {x} h = settled_next (λ n. (upto c b n).process s now w) _ (settled_fault _ _ x u (outer_of h))

    pub process_after : {f : Found} {u : World} {r : Run Went}
        → Settled (λ n. (upto c b n).search (On s) l now w) (Ended f u)
        → Settled (λ n. after_outer c (upto c b n) s now f u) r → Settled (λ n. (upto c b n).process s now w) r
    process_after {f} {u} {r} h k =
        settled_next (λ n. (upto c b n).process s now w) r (settled_then _ _ f u r (outer_of h) k)

  taken : {s d : ℕ} {acts actions : List (List Stmt)} {w : World} {r : Run (Unit {0})} → acts ≡ actions
      → Settled (λ n. (upto c b n).take s d acts now w) r → Settled (λ n. (upto c b n).take s d actions now w) r
  taken {s} {d} {w = w} {r} same h = subst (λ l. Settled (λ n. (upto c b n).take s d l now w) r) same h

  -- an outer transition that was found is taken
  pub outer_fault : (s : ℕ) {d q : ℕ} {acts actions : List (List Stmt)} {w u : World} {x : Fault}
      → q ≡ home_of c.tree s Outer d → acts ≡ actions
      → Settled (λ n. (upto c b n).take q d acts now w) (Faulted x u)
      → Settled (λ n. after_outer c (upto c b n) s now (Fire d actions) w) (Faulted x u)
  outer_fault s {d} {actions = actions} {w} {u} {x} e same h =
      settled_fault _ _ x u
      (subst (λ q. Settled (λ n. (upto c b n).take q d actions now w) (Faulted x u)) e (taken same h))

  pub outer_taken : (s : ℕ) {d q : ℕ} {acts actions : List (List Stmt)} {w u : World} → q ≡ home_of c.tree s Outer d
      → acts ≡ actions → Settled (λ n. (upto c b n).take q d acts now w) (Ended tt u)
      → Settled (λ n. after_outer c (upto c b n) s now (Fire d actions) w) (Ended (Out q) u)
  outer_taken s {d} {actions = actions} {w} {u} e same h =
      subst (λ p. Settled (λ n. after_outer c (upto c b n) s now (Fire d actions) w) (Ended (Out p) u)) (sym e)
      (settled_then _ _ tt u _
      (subst (λ q. Settled (λ n. (upto c b n).take q d actions now w) (Ended tt u)) e (taken same h)) (settled_now _))

  module _ {s : ℕ} {l : List Stmt} {w : World} (e : l ≡ (node c s).during) where
    during_of : {r : Run End} → Settled (λ n. (upto c b n).block (On s) l now w) r
        → Settled (λ n. (upto c b n).block (On s) (node c s).during now w) r
    during_of {r} h = subst (λ l. Settled (λ n. (upto c b n).block (On s) l now w) r) e h

    -- no outer transition was found: the during action, and then the inner list
    pub during_fault : {u : World} {x : Fault} → Settled (λ n. (upto c b n).block (On s) l now w) (Faulted x u)
        → Settled (λ n. go_on_inside c (upto c b n) s now w) (Faulted x u)
    during_fault {u} {x} h = settled_fault _ _ x u (during_of h)

    pub during_cut : {u : World} → Settled (λ n. (upto c b n).block (On s) l now w) (Ended Cut u)
        → Settled (λ n. go_on_inside c (upto c b n) s now w) (Ended Stay u)
    during_cut {u} h = settled_then _ _ Cut u _ (during_of h) (settled_now _)

    module _ {u : World} (h : Settled (λ n. (upto c b n).block (On s) l now w) (Ended Done u)) {i : List Trans}
        (k : i ≡ (node c s).inner) where
      inner_of : {r : Run Found} → Settled (λ n. (upto c b n).search (On s) i now u) r
          → Settled (λ n. (upto c b n).search (On s) (node c s).inner now u) r
      inner_of {r} g = subst (λ l. Settled (λ n. (upto c b n).search (On s) l now u) r) k g

      pub inner_fault : {v : World} {x : Fault} → Settled (λ n. (upto c b n).search (On s) i now u) (Faulted x v)
          → Settled (λ n. go_on_inside c (upto c b n) s now w) (Faulted x v)
      inner_fault {v} {x} g = settled_then _ _ Done u _ (during_of h) (settled_fault _ _ x v (inner_of g))

      pub inner_after : {f : Found} {v : World} {r : Run Went}
          → Settled (λ n. (upto c b n).search (On s) i now u) (Ended f v)
          → Settled (λ n. after_inner c (upto c b n) s now f v) r → Settled (λ n. go_on_inside c (upto c b n) s now w) r
      inner_after {f} {v} g q = settled_then _ _ Done u _ (during_of h) (settled_then _ _ f v _ (inner_of g) q)

  -- an inner transition that was found is taken
  pub inner_take_fault : {s d : ℕ} {acts actions : List (List Stmt)} {w u : World} {x : Fault} → acts ≡ actions
      → Settled (λ n. (upto c b n).take s d acts now w) (Faulted x u)
      → Settled (λ n. after_inner c (upto c b n) s now (Fire d actions) w) (Faulted x u)
  inner_take_fault {u = u} {x} same h = settled_fault _ _ x u (taken same h)

  pub inner_taken : {s d : ℕ} {acts actions : List (List Stmt)} {w u : World} → acts ≡ actions
      → Settled (λ n. (upto c b n).take s d acts now w) (Ended tt u)
      → Settled (λ n. after_inner c (upto c b n) s now (Fire d actions) w) (Ended Stay u)
  inner_taken {u = u} same h = settled_then _ _ tt u _ (taken same h) (settled_now _)

  -- processing the children of a leaf, an OR and an AND
  pub kids_leaf : (s : ℕ) {o : Comp} {w : World} → Leaf ≡ o
      → Settled (λ n. process_children c (upto c b n) s now o w) (Ended Stay w)
  kids_leaf s {o} {w} e =
      subst (λ o. Settled (λ n. process_children c (upto c b n) s now o w) (Ended Stay w)) e (settled_now _)

  pub kids_none : (s : ℕ) {o : Comp} {w : World} → Or ≡ o → None ≡ active_child c.tree s w.marks
      → Settled (λ n. process_children c (upto c b n) s now o w) (Ended Stay w)
  kids_none s {o} {w} e a =
      subst (λ o. Settled (λ n. process_children c (upto c b n) s now o w) (Ended Stay w)) e
      (settled_none _ _ _ w _ (sym a) (settled_now _))

  pub kids_fault : (s : ℕ) {x : ℕ} {o : Comp} {w u : World} {f : Fault} → Or ≡ o
      → Some x ≡ active_child c.tree s w.marks
      → Settled (λ n. (upto c b n).process x now w) (Faulted f u)
      → Settled (λ n. process_children c (upto c b n) s now o w) (Faulted f u)
  kids_fault s {x} {o} {w} {u} {f} e a h =
      subst (λ o. Settled (λ n. process_children c (upto c b n) s now o w) (Faulted f u)) e
      (settled_some _ x _ (λ n x w. then_do ((upto c b n).process x now w) (from_child s)) w _ (sym a)
      (settled_fault _ _ f u h))

  pub kids_one : (s : ℕ) {x : ℕ} {o : Comp} {w u : World} {went : Went} {r : Run Went} → Or ≡ o
      → Some x ≡ active_child c.tree s w.marks → Settled (λ n. (upto c b n).process x now w) (Ended went u)
      → from_child s went u ≡ r → Settled (λ n. process_children c (upto c b n) s now o w) r
  kids_one s {x} {o} {w} {u} {went} {r} e a h k =
      subst (λ o. Settled (λ n. process_children c (upto c b n) s now o w) r) e
      (settled_some _ x _ (λ n x w. then_do ((upto c b n).process x now w) (from_child s)) w _ (sym a)
      (settled_then _ _ went u _ h (settled_is k)))

  from_out : (s h : ℕ) (b : Bool) (u : World) → (h == s) ≡ b
      → from_child s (Out h) u ≡ Ended (if b then Stay else Out h) u
  from_out s h true u e = ap (λ b. choose b (give Stay) (give (Out h)) u) e
  from_out s h false u e = ap (λ b. choose b (give Stay) (give (Out h)) u) e

  pub kids_out : (s : ℕ) {x h : ℕ} {o : Comp} {w u : World} {went : Went} → went ≡ (if h == s then Stay else Out h)
      → Or ≡ o → Some x ≡ active_child c.tree s w.marks → Settled (λ n. (upto c b n).process x now w) (Ended (Out h) u)
      → Settled (λ n. process_children c (upto c b n) s now o w) (Ended went u)
  kids_out s {h = h} {o} {w} {u} is e a k =
      subst (λ z. Settled (λ n. process_children c (upto c b n) s now o w) (Ended z u)) (sym is)
      (kids_one s e a k (from_out s h (h == s) u refl))

  pub kids_each : (s : ℕ) {o : Comp} {w : World} {r : Run Went} {xs : List ℕ} → And ≡ o → xs ≡ children_of c.tree s
      → Settled (λ n. (upto c b n).process_each xs now w) r → Settled (λ n. process_children c (upto c b n) s now o w) r
  kids_each s {o} {w} {r} {xs} e k h =
      subst (λ o. Settled (λ n. process_children c (upto c b n) s now o w) r) e
      (subst (λ xs. Settled (λ n. (upto c b n).process_each xs now w) r) k h)

  -- processing the regions one after another
  pub each_end : {w : World} → Settled (λ n. (upto c b n).process_each [] now w) (Ended Stay w)
  each_end {w} = settled_next (λ n. (upto c b n).process_each [] now w) _ (settled_now _)

  pub each_off : {x : ℕ} {xs : List ℕ} {w : World} {r : Run Went} → is_on x w.marks ≡ false
      → Settled (λ n. (upto c b n).process_each xs now w) r → Settled (λ n. (upto c b n).process_each (x ∷ xs) now w) r
  each_off {x} {xs} {w} {r} o h =
      settled_next (λ n. (upto c b n).process_each (x ∷ xs) now w) r (settled_false _ _ _ w _ o h)

  pub each_fault : {x : ℕ} {xs : List ℕ} {w u : World} {f : Fault} → is_on x w.marks ≡ true
      → Settled (λ n. (upto c b n).process x now w) (Faulted f u)
      → Settled (λ n. (upto c b n).process_each (x ∷ xs) now w) (Faulted f u)
  each_fault {x} {xs} {w} {u} {f} o h =
      settled_next (λ n. (upto c b n).process_each (x ∷ xs) now w) _
      (settled_true _ _ _ w _ o (settled_fault _ _ f u h))

  pub each_out : {x : ℕ} {xs : List ℕ} {q : ℕ} {w u : World} → is_on x w.marks ≡ true
      → Settled (λ n. (upto c b n).process x now w) (Ended (Out q) u)
      → Settled (λ n. (upto c b n).process_each (x ∷ xs) now w) (Ended (Out q) u)
  each_out {x} {xs} {q} {w} {u} o h =
      settled_next (λ n. (upto c b n).process_each (x ∷ xs) now w) _
      (settled_true _ _ _ w _ o (settled_then _ _ (Out q) u _ h (settled_now _)))

  pub each_stay : {x : ℕ} {xs : List ℕ} {w u : World} {r : Run Went} → is_on x w.marks ≡ true
      → Settled (λ n. (upto c b n).process x now w) (Ended Stay u) → Settled (λ n. (upto c b n).process_each xs now u) r
      → Settled (λ n. (upto c b n).process_each (x ∷ xs) now w) r
  each_stay {x} {xs} {w} {u} {r} o h k =
      settled_next (λ n. (upto c b n).process_each (x ∷ xs) now w) r
      (settled_true _ _ _ w _ o (settled_then _ _ Stay u r h k))
