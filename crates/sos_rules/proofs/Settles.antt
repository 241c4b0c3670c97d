-- Work that is over from some height on.
use Rattle.std.proofs.Common.{◌≡◌, ℕ, zero, suc, ◌+◌, ◌<◌, ◌≤◌, max, List, [], ◌∷◌, Option, Some, None, Result, Ok, Err}
use Rattle.std.proofs.Common.{Bool, true, false, refl, ap, sym, subst, ◌∙◌, arith}
use Rattle.std.specs.Prelude.{nat_le, if◌then◌else◌}
use Rattle.std.specs.List.{AllByRecursion}
use Rattle.std.proofs.lemmas.Bool.Decides.{nat_tests}
use Rattle.actions.specs.Data.{Datum, assigned}
use Rattle.actions.specs.Values.{Valued, value_of}
use Rattle.actions.specs.Changes.{with_data, assigned_value, paid_in, assigned_in, truth_of, set_mark, keep_in}
use Rattle.actions.specs.Work.{Run, Ended, Faulted, Work, ◌>>=◌, then_do, give, fault, choose, change_or_fault}
use Rattle.actions.specs.Work.{flag_or_fault, if_some, if_done, End, Done, Cut, Now, deeper}
use Rattle.sos_rules.proofs.MarkedStates.{active_is_child, returns_to_child, all_reverse}
use Rattle.sos_rules.specs.Parts.{Found, Fire, DeadEnd, No, Stop, Went, Stay, Out}
use Rattle.sos_rules.specs.Moves.{keep_if, entered_in, exit_active, exit_children, enter_toward, enter_inside}
use Rattle.sos_rules.specs.Moves.{after_default, default_search, remembered}
use Rattle.sos_rules.specs.Searches.{pay, assign, guard_holds, is_enabled, while_alive, statement, after_junction}
use Rattle.sos_rules.specs.Searches.{visit, at_dest, after_condition}
use Rattle.sos_rules.specs.Processing.{from_child, process_children, after_inner, go_on_inside, after_outer}
use Rattle.sos_rules.specs.Processing.{after_region}
use Rattle.sos_rules.specs.Rules.{upto}
use Rattle.checked_chart.proofs.Trees.{IsChild, children_are, toward_is_child, all_map}
use Rattle.checked_chart.specs.Chart.{Chart, Trans, is_remembered, junction}
use Rattle.checked_chart.specs.Homes.{child_toward}
use Rattle.checked_chart.specs.declared.parts.Dest.{Dest}
use Rattle.checked_chart.specs.declared.parts.Dest.TheVariants.{State, Junction}
use Rattle.flow_base.specs.declared.bounds.Bounds.{Bounds}
use Rattle.flow_base.specs.declared.fault.Fault.{Fault}
use Rattle.flow_base.specs.declared.fault.Fault.TheVariants as faults_of
use Rattle.active_config.specs.declared.comp.Comp.{Comp}
use Rattle.active_config.specs.declared.comp.Comp.TheVariants.{Leaf, Or, And}
use Rattle.active_config.specs.Tree.{Tree, IsTree, state_count, children_of}
use Rattle.active_config.specs.Marks.{active_child}
use Rattle.actions.specs.Exprs.{Expr, Stmt, Assign, Send, SendTo, Emit}
use Rattle.actions.specs.World.{World, emitted, Life}

-- what holds of a state where it holds of its children holds of each state
module _ (t : Tree) (Q : ℕ → Type 0) (step : (s : ℕ) → ((x : ℕ) → IsChild t s x → Q x) → Q s) where
  -- the same of states that are at most m numbers from the last
  within_tree : (m s : ℕ) → state_count t ≤ s + m → Q s
  within_tree zero s le = step s (λ x i. absurd (omega (arith, i.above, i.within)))
  within_tree (suc m) s le = step s (λ x i. within_tree m x (omega (arith, i.above)))

  pub tree_induction : (s : ℕ) → Q s
  tree_induction s = within_tree (state_count t) s (omega arith)

-- at most k steps are left
pub record Left (b : Bounds) (k : ℕ) (w : World) : Type 0 where
  pub left : b.steps ≤ w.used + k

-- from some height on the outcome is one and the same, in a world with P
pub data Settles (P : World → Type 0) {A : Type 0} (m : ℕ → Run A) : Type 0 where
  ends : (a : A) (w : World) → P w → (from : ℕ) → ((n : ℕ) → from ≤ n → m n ≡ Ended a w) → Settles P m
  faults : (x : Fault) (w : World) → P w → (from : ℕ) → ((n : ℕ) → from ≤ n → m n ≡ Faulted x w) → Settles P m

-- what holds of every later successor holds of every later number
later_pred : {A : Type 0} (m : ℕ → Run A) (r : Run A) (from : ℕ) → ((n : ℕ) → from ≤ n → m (suc n) ≡ r) → (n : ℕ)
    → suc from ≤ n → m n ≡ r
later_pred m r from h zero le = absurd (omega arith)
later_pred m r from h (suc n) le = h n (omega arith)

-- it is enough to look at greater heights
pub from_next : {A : Type 0} (P : World → Type 0) (m : ℕ → Run A) → Settles P (λ n. m (suc n)) → Settles P m
from_next P m (ends a w p from h) = ends a w p (suc from) (later_pred m (Ended a w) from h)
from_next P m (faults x w p from h) = faults x w p (suc from) (later_pred m (Faulted x w) from h)

-- a property that follows from another may take its place
pub weaker : {A : Type 0} (P Q : World → Type 0) (m : ℕ → Run A) → ((w : World) → P w → Q w) → Settles P m → Settles Q m
weaker P Q m f (ends a w p from h) = ends a w (f w p) from h
weaker P Q m f (faults x w p from h) = faults x w (f w p) from h

module _ (P : World → Type 0) where
  -- work that is over at once
  pub ends_now : {A : Type 0} (a : A) (w : World) → P w → Settles P (λ n. Ended a w)
  ends_now a w p = ends a w p 0 (λ n le. refl)

  pub faults_now : {A : Type 0} (x : Fault) (w : World) → P w → Settles P {A = A} (λ n. Faulted x w)
  faults_now x w p = faults x w p 0 (λ n le. refl)

  -- the outcome of two pieces of work, where the first ends from some height on
  then_from : {A B : Type 0} (m : ℕ → Run A) (f : ℕ → A → Work B) (a : A) (w : World) (from : ℕ)
      → ((n : ℕ) → from ≤ n → m n ≡ Ended a w) → Settles P (λ n. f n a w) → Settles P (λ n. then_do (m n) (f n))
  then_from m f a w from h (ends c v p at k) =
      ends c v p (max from at) (λ n le. ap (λ r. then_do r (f n)) (h n (omega arith)) ∙ k n (omega arith))
  then_from m f a w from h (faults x v p at k) =
      faults x v p (max from at) (λ n le. ap (λ r. then_do r (f n)) (h n (omega arith)) ∙ k n (omega arith))

  -- the forms of work settle, where their parts do
  pub then_settles : {A B : Type 0} (m : ℕ → Run A) (f : ℕ → A → Work B) → Settles P m
      → ((a : A) (w : World) → P w → Settles P (λ n. f n a w)) → Settles P (λ n. then_do (m n) (f n))
  then_settles m f (ends a w p from h) k = then_from m f a w from h (k a w p)
  then_settles m f (faults x w p from h) k = faults x w p from (λ n le. ap (λ r. then_do r (f n)) (h n le))

  pub choose_settles : {A : Type 0} (b : Bool) (m k : ℕ → Work A) (w : World) → (b ≡ true → Settles P (λ n. m n w))
      → (b ≡ false → Settles P (λ n. k n w)) → Settles P (λ n. choose b (m n) (k n) w)
  choose_settles true m k w h i = h refl
  choose_settles false m k w h i = i refl

  pub if_done_settles : {A : Type 0} (e : End) (a : A) (m : ℕ → Work A) (w : World) → P w → Settles P (λ n. m n w)
      → Settles P (λ n. if_done e a (m n) w)
  if_done_settles Done a m w p h = h
  if_done_settles Cut a m w p h = ends_now a w p

  pub if_some_settles : {A : Type 0} (o : Option ℕ) (m : ℕ → Work A) (f : ℕ → ℕ → Work A) (w : World)
      → Settles P (λ n. m n w) → ((x : ℕ) → o ≡ Some x → Settles P (λ n. f n x w))
      → Settles P (λ n. if_some o (m n) (f n) w)
  if_some_settles None m f w h i = h
  if_some_settles (Some x) m f w h i = i x refl

  -- a change settles, and so does a test
  pub change_settles : (r : Result World Fault) (w : World) → ((v : World) → r ≡ Ok v → P v)
      → ((x : Fault) → r ≡ Err x → P w) → Settles P (λ n. change_or_fault r w)
  change_settles (Ok v) w h i = ends_now tt v (h v refl)
  change_settles (Err x) w h i = faults_now x w (i x refl)

  pub flag_settles : (r : Result Bool Fault) (w : World) → P w → Settles P (λ n. flag_or_fault r w)
  flag_settles (Ok f) w p = ends_now f w p
  flag_settles (Err x) w p = faults_now x w p

-- what a payment gives
paid_if : (b : Bounds) (w v : World) (spent : Bool)
    → (if spent then Err faults_of.Steps else Ok (record w { used = w.used + 1 })) ≡ Ok v
    → (spent ≡ false) × (v.used ≡ w.used + 1)
paid_if b w v true e = absurd cc
paid_if b w v false e = let f : record w { used = w.used + 1 } ≡ v = cc in (refl, sym (ap (λ (x : World). x.used) f))

-- a step that was paid was left, and one more is used
pub paid_ok : (b : Bounds) (w v : World) → paid_in b w ≡ Ok v → (w.used < b.steps) × (v.used ≡ w.used + 1)
unfolding paid_in
paid_ok b w v e = let h = paid_if b w v (nat_le b.steps w.used) e in let t = h.0 in (grind (arith, nat_tests), h.1)

-- a step is refused only where none is left
refused_if : (w : World) (x : Fault) (spent : Bool)
    → (if spent then Err faults_of.Steps else Ok (record w { used = w.used + 1 })) ≡ Err x → spent ≡ true
refused_if w x true e = refl
refused_if w x false e = absurd cc

-- where a step is refused, none is left
pub paid_refused : (b : Bounds) (w : World) (x : Fault) → paid_in b w ≡ Err x → b.steps ≤ w.used
unfolding paid_in
paid_refused b w x e = let t = refused_if w x (nat_le b.steps w.used) e in grind (arith, nat_tests)

-- an assignment costs nothing
abbrev KeepsUsed : World → Result World Fault → Type 0
KeepsUsed w (Ok v) = v.used ≡ w.used
KeepsUsed w (Err x) = Unit {0}

-- new data, a value and an assignment cost nothing
data_used : (w : World) (r : Result (List Datum) Fault) → KeepsUsed w (with_data r w)
data_used w (Ok vals) = refl
data_used w (Err x) = tt

value_used : (v : ℕ) (r : Valued) (w : World) → KeepsUsed w (assigned_value v r w)
value_used v (Ok x) w = data_used w (assigned w.vals v x)
value_used v (Err x) w = tt

assigned_keeps_used : (v : ℕ) (e : Expr) (w : World) → KeepsUsed w (assigned_in v e w)
unfolding assigned_in
assigned_keeps_used v e w = value_used v (value_of w.vals w.marks e) w

-- a world after an assignment has used the same steps
pub assigned_used : (v : ℕ) (e : Expr) (w u : World) → assigned_in v e w ≡ Ok u → u.used ≡ w.used
assigned_used v e w u q = subst (KeepsUsed w) q (assigned_keeps_used v e w)

-- with more steps, that bound holds too
more_left : (b : Bounds) (k : ℕ) (w : World) → Left b k w → Left b (suc k) w
more_left b k w l = record { left = omega (arith, l.left) }

-- outputs and marks cost nothing
emits_left : (b : Bounds) (k e : ℕ) (w : World) → Left b k w → Left b k (emitted e w)
emits_left b k e w l = record { left = l.left }

marks_left : (b : Bounds) (k s : ℕ) (on : Bool) (w : World) → Left b k w → Left b k (set_mark s on w)
marks_left b k s on w l = record { left = l.left }

entered_if : (b : Bounds) (k s : ℕ) (t : Tree) (h : Bool) (w : World) → Left b k w
    → Left b k (keep_if h t s (set_mark s true w))
unfolding keep_in
entered_if b k s t true w l = record { left = l.left }
entered_if b k s t false w l = record { left = l.left }

entered_left : (b : Bounds) (k : ℕ) (c : Chart) (s : ℕ) (w : World) → Left b k w → Left b k (entered_in c s w)
unfolding entered_in
entered_left b k c s w l = entered_if b k s c.tree (is_remembered c s) w l

module _ (c : Chart) (b : Bounds) where
  -- after a payment one step fewer is left
  pay_down : (k : ℕ) (w : World) → Left b (suc k) w → Settles (Left b k) (λ n. pay b w)
  pay_down k w l =
      change_settles (Left b k) (paid_in b w) w
      (λ v e. let h = paid_ok b w v e in record { left = omega (arith, l.left, h.0, h.1) })
      (λ x e. record { left = omega (arith, paid_refused b w x e) })

  -- with k steps left
  module _ (k : ℕ) where
    pay_settles : (w : World) → Left b k w → Settles (Left b k) (λ n. pay b w)
    pay_settles w l =
        change_settles (Left b k) (paid_in b w) w
        (λ v e. let h = paid_ok b w v e in record { left = omega (arith, l.left, h.0, h.1) }) (λ x e. l)

    assign_settles : (v : ℕ) (e : Expr) (w : World) → Left b k w → Settles (Left b k) (λ n. assign v e w)
    assign_settles v e w l =
        change_settles (Left b k) (assigned_in v e w) w
        (λ u q. let h = assigned_used v e w u q in record { left = omega (arith, l.left, h) }) (λ x q. l)

    guard_settles : (g : Option Expr) (w : World) → Left b k w → Settles (Left b k) (λ n. guard_holds g w)
    guard_settles None w l = ends_now (Left b k) true w l
    guard_settles (Some g) w l = flag_settles (Left b k) (truth_of g w) w l

    enabled_settles : (t : Trans) (now : Now) (w : World) → Left b k w → Settles (Left b k) (λ n. is_enabled t now w)
    enabled_settles t now w l =
        choose_settles (Left b k) _ (λ n. guard_holds t.guard) (λ n. give false) w (λ _. guard_settles t.guard w l)
        (λ _. ends_now (Left b k) false w l)

    alive_settles : (life : Life) (w : World) → Left b k w → Settles (Left b k) (λ n. while_alive c.tree life w)
    alive_settles life w l = search (choose_settles (Left b k), ends_now)

  -- the parts at each height
  module _ (now : Now) (sends : (k e : ℕ) (to : Option ℕ) (w : World) → Left b k w
      → Settles (Left b k) (λ n. (upto c b n).send e to now w)) where
    statement_settles : (k : ℕ) (life : Life) (s : Stmt) (w : World) → Left b k w
        → Settles (Left b k) (λ n. statement c b (upto c b n) life s now w)
    statement_settles k life (Assign v e) w l =
        then_settles (Left b k) (λ n. assign v e w) (λ n _. give Done) (assign_settles k v e w l)
        (λ _ w' l'. ends_now (Left b k) Done w' l')
    statement_settles k life (Emit e) w l =
        then_settles (Left b k) (λ n. pay b w) (λ n _ v. Ended Done (emitted e v)) (pay_settles k w l)
        (λ _ v l'. ends_now (Left b k) Done (emitted e v) (emits_left b k e v l'))
    statement_settles k life (Send e) w l = search (then_settles (Left b k), sends, alive_settles)
    statement_settles k life (SendTo e s) w l = search (then_settles (Left b k), sends, alive_settles)

    block_settles : (k : ℕ) (life : Life) (stmts : List Stmt) (w : World) → Left b k w
        → Settles (Left b k) (λ n. (upto c b n).block life stmts now w)
    block_settles k life [] w l =
        from_next (Left b k) (λ n. (upto c b n).block life [] now w) (ends_now (Left b k) Done w l)
    block_settles k life (s ∷ rest) w l =
        from_next (Left b k) (λ n. (upto c b n).block life (s ∷ rest) now w)
        (search (then_settles (Left b k), if_done_settles (Left b k), statement_settles, block_settles k life rest))

    play_settles : (k s : ℕ) (actions : List (List Stmt)) (w : World) → Left b k w
        → Settles (Left b k) (λ n. (upto c b n).play s actions now w)
    play_settles k s [] w l = from_next (Left b k) (λ n. (upto c b n).play s [] now w) (ends_now (Left b k) Done w l)
    play_settles k s ([] ∷ actions) w l =
        from_next (Left b k) (λ n. (upto c b n).play s ([] ∷ actions) now w) (play_settles k s actions w l)
    play_settles k s ((x ∷ xs) ∷ actions) w l =
        from_next (Left b k) (λ n. (upto c b n).play s ((x ∷ xs) ∷ actions) now w)
        (search
        (then_settles (Left b k), if_done_settles (Left b k), pay_settles, block_settles, play_settles k s actions)
        depth 9)

    module _ (k : ℕ) (life : Life) (visits : (ts : List Trans) (w : World) → Left b k w
        → Settles (Left b k) (λ n. (upto c b n).search life ts now w)) where
      -- with suc k steps left, where k steps are enough for any list
      after_junction_settles : (action : List Stmt) (rest : List Trans) (f : Found) (w : World) → Left b k w
          → Settles (Left b k) (λ n. after_junction c b (upto c b n) life action rest now f w)
      after_junction_settles action rest (Fire d actions) w l = ends_now (Left b k) _ w l
      after_junction_settles action rest DeadEnd w l = ends_now (Left b k) _ w l
      after_junction_settles action rest No w l = visits rest w l
      after_junction_settles action rest Stop w l = ends_now (Left b k) _ w l

      visit_settles : (action : List Stmt) (rest ts : List Trans) (w : World) → Left b k w
          → Settles (Left b k) (λ n. visit c b (upto c b n) life action rest now ts w)
      visit_settles action rest [] w l = ends_now (Left b k) _ w l
      visit_settles action rest (t ∷ ts) w l = search (then_settles (Left b k), visits, after_junction_settles)

    module _ (k : ℕ) (life : Life) (dests : (action : List Stmt) (rest : List Trans) (d : Dest) (w : World) → Left b k w
        → Settles (Left b k) (λ n. at_dest c b (upto c b n) life action rest now d w)) where
      after_condition_settles : (t : Trans) (rest : List Trans) (e : End) (w : World) → Left b k w
          → Settles (Left b k) (λ n. after_condition c b (upto c b n) life t rest now e w)
      after_condition_settles t rest Done w l = dests t.action rest t.dest w l
      after_condition_settles t rest Cut w l = ends_now (Left b k) Stop w l

      -- a list of transitions settles where each of its destinations does
      list_settles : (ts : List Trans) (w : World) → Left b k w
          → Settles (Left b k) (λ n. (upto c b n).search life ts now w)
      list_settles [] w l = from_next (Left b k) (λ n. (upto c b n).search life [] now w) (ends_now (Left b k) No w l)
      list_settles (t ∷ ts) w l =
          from_next (Left b k) (λ n. (upto c b n).search life (t ∷ ts) now w)
          (then_settles (Left b k) (λ n. is_enabled t now w)
          (λ n e. choose e ((upto c b n).block life t.condition now >>= after_condition c b (upto c b n) life t ts now)
          ((upto c b n).search life ts now)) (enabled_settles k t now w l)
          (λ e w' l'. search (
            choose_settles (Left b k),
            then_settles (Left b k),
            block_settles,
            list_settles ts,
            after_condition_settles,
          )))

    dest_settles : (k : ℕ) (life : Life)
        → ((ts : List Trans) (w : World) → Left b k w → Settles (Left b k) (λ n. (upto c b n).search life ts now w))
        → (action : List Stmt) (rest : List Trans) (d : Dest) (w : World) → Left b (suc k) w
        → Settles (Left b (suc k)) (λ n. at_dest c b (upto c b n) life action rest now d w)
    dest_settles k life visits action rest (State d) w l = ends_now (Left b (suc k)) _ w l
    dest_settles k life visits action rest (Junction j) w l =
        weaker (Left b k) (Left b (suc k)) _ (more_left b k)
        (search (then_settles (Left b k), pay_down, visit_settles k life visits))

    -- with no step left a payment faults
    spent_settles : (r : Result World Fault) (f : ℕ → Unit {0} → Work Found) (w : World) → Left b 0 w → paid_in b w ≡ r
        → Settles (Left b 0) (λ n. then_do (change_or_fault r w) (f n))
    spent_settles (Ok v) f w l e = absurd (let h = paid_ok b w v e in omega (arith, h.0, l.left))
    spent_settles (Err x) f w l e = faults_now (Left b 0) x w l

    dest_settles_spent : (life : Life) (action : List Stmt) (rest : List Trans) (d : Dest) (w : World) → Left b 0 w
        → Settles (Left b 0) (λ n. at_dest c b (upto c b n) life action rest now d w)
    dest_settles_spent life action rest (State d) w l = ends_now (Left b 0) _ w l
    dest_settles_spent life action rest (Junction j) w l =
        spent_settles (paid_in b w) (λ n _. visit c b (upto c b n) life action rest now (junction c j)) w l refl

    search_settles : (k : ℕ) (life : Life) (ts : List Trans) (w : World) → Left b k w
        → Settles (Left b k) (λ n. (upto c b n).search life ts now w)
    search_settles zero life ts w l = list_settles 0 life (dest_settles_spent life) ts w l
    search_settles (suc k) life ts w l = list_settles (suc k) life (dest_settles k life (search_settles k life)) ts w l

    module _ (k : ℕ) (tree : IsTree c.tree) where
      -- leaving a state settles
      Exits : ℕ → Type 0
      Exits s = (w : World) → Left b k w → Settles (Left b k) (λ n. (upto c b n).exit s now w)

      exit_each_settles : (xs : List ℕ) → AllByRecursion Exits xs → (w : World) → Left b k w
          → Settles (Left b k) (λ n. (upto c b n).exit_each xs now w)
      unfolding Exits
      exit_each_settles [] a w l =
          from_next (Left b k) (λ n. (upto c b n).exit_each [] now w) (ends_now (Left b k) tt w l)
      exit_each_settles (x ∷ xs) a w l =
          from_next (Left b k) (λ n. (upto c b n).exit_each (x ∷ xs) now w)
          (then_settles (Left b k) (λ n. (upto c b n).exit x now w) (λ n _. (upto c b n).exit_each xs now) (a.0 w l)
          (λ _. exit_each_settles xs a.1))

      active_settles : (s : ℕ) → ((x : ℕ) → IsChild c.tree s x → Exits x) → (w : World) → Left b k w
          → Settles (Left b k) (λ n. exit_active c (upto c b n) s now w)
      unfolding Exits
      active_settles s ih w l =
          if_some_settles (Left b k) (active_child c.tree s w.marks) (λ n w. Ended tt w)
          (λ n x. (upto c b n).exit x now) w (ends_now (Left b k) tt w l)
          (λ x e. ih x (active_is_child c.tree tree s x w.marks e).1 w l)

      exit_children_settles : (s : ℕ) → ((x : ℕ) → IsChild c.tree s x → Exits x) → (o : Comp) (w : World) → Left b k w
          → Settles (Left b k) (λ n. exit_children c (upto c b n) s now o w)
      unfolding Exits
      exit_children_settles s ih Leaf w l = ends_now (Left b k) tt w l
      exit_children_settles s ih Or w l = active_settles s ih w l
      exit_children_settles s ih And w l =
          exit_each_settles _ (all_reverse Exits (children_of c.tree s)
          (all_map (IsChild c.tree s) Exits (children_of c.tree s) ih (children_are c.tree tree s))) w l

      -- leaving a state settles where leaving its children does
      exit_step : (s : ℕ) → ((x : ℕ) → IsChild c.tree s x → Exits x) → Exits s
      unfolding Exits
      exit_step s ih w l =
          from_next (Left b k) (λ n. (upto c b n).exit s now w)
          (search (
            then_settles (Left b k),
            choose_settles (Left b k),
            if_done_settles (Left b k),
            exit_children_settles s ih,
            block_settles,
            ends_now,
            marks_left,
          ) depth 15)

      exit_settles : (s : ℕ) (w : World) → Left b k w → Settles (Left b k) (λ n. (upto c b n).exit s now w)
      unfolding Exits
      exit_settles = tree_induction c.tree Exits exit_step

      -- entering a state settles
      Enters : ℕ → Type 0
      Enters s = (d : ℕ) (w : World) → Left b k w → Settles (Left b k) (λ n. (upto c b n).enter s d now w)

      enter_each_settles : (xs : List ℕ) (d : ℕ) → AllByRecursion Enters xs → (w : World) → Left b k w
          → Settles (Left b k) (λ n. (upto c b n).enter_each xs d now w)
      unfolding Enters
      enter_each_settles [] d a w l =
          from_next (Left b k) (λ n. (upto c b n).enter_each [] d now w) (ends_now (Left b k) tt w l)
      enter_each_settles (x ∷ xs) d a w l =
          from_next (Left b k) (λ n. (upto c b n).enter_each (x ∷ xs) d now w)
          (then_settles (Left b k) (λ n. (upto c b n).enter x _ now w) (λ n _. (upto c b n).enter_each xs d now)
          (a.0 _ w l) (λ _. enter_each_settles xs d a.1))

      toward_settles : (s d : ℕ) → ((x : ℕ) → IsChild c.tree s x → Enters x) → (w : World) → Left b k w
          → Settles (Left b k)
          (λ n. if_some (child_toward c.tree s d) (λ w. Ended tt w) (λ x. (upto c b n).enter x d now) w)
      unfolding Enters
      toward_settles s d ih w l =
          if_some_settles (Left b k) (child_toward c.tree s d) (λ n w. Ended tt w) (λ n x. (upto c b n).enter x d now) w
          (ends_now (Left b k) tt w l) (λ x e. ih x ((toward_is_child c.tree tree s d x e).1) d w l)

      after_default_settles : (s : ℕ) → ((x : ℕ) → IsChild c.tree s x → Enters x) → (f : Found) (w : World) → Left b k w
          → Settles (Left b k) (λ n. after_default c (upto c b n) s now f w)
      after_default_settles s ih (Fire d actions) w l =
          search (then_settles (Left b k), if_done_settles (Left b k), play_settles, toward_settles s d ih)
      after_default_settles s ih DeadEnd w l = ends_now (Left b k) tt w l
      after_default_settles s ih No w l = ends_now (Left b k) tt w l
      after_default_settles s ih Stop w l = ends_now (Left b k) tt w l

      default_search_settles : (s : ℕ) → ((x : ℕ) → IsChild c.tree s x → Enters x) → (w : World) → Left b k w
          → Settles (Left b k) (λ n. default_search c (upto c b n) s now w)
      default_search_settles s ih w l = search (then_settles (Left b k), search_settles, after_default_settles s ih)

      defaults_step : (s : ℕ) → ((x : ℕ) → IsChild c.tree s x → Enters x) → (w : World) → Left b k w
          → Settles (Left b k) (λ n. (upto c b n).defaults s now w)
      unfolding Enters
      defaults_step s ih w l =
          from_next (Left b k) (λ n. (upto c b n).defaults s now w)
          (if_some_settles (Left b k) (remembered c s w) (λ n. default_search c (upto c b n) s now)
          (λ n x. (upto c b n).enter x x now) w (default_search_settles s ih w l)
          (λ x e. ih x (returns_to_child c tree s x _ e) x w l))

      enter_inside_settles : (s d : ℕ) → ((x : ℕ) → IsChild c.tree s x → Enters x) → (o : Comp) (w : World) → Left b k w
          → Settles (Left b k) (λ n. enter_inside c (upto c b n) s d now o w)
      enter_inside_settles s d ih Leaf w l = ends_now (Left b k) tt w l
      enter_inside_settles s d ih Or w l = search (choose_settles (Left b k), defaults_step s ih, toward_settles s d ih)
      enter_inside_settles s d ih And w l =
          enter_each_settles _ d
          (all_map (IsChild c.tree s) Enters (children_of c.tree s) ih (children_are c.tree tree s)) w l

      -- entering a state settles where entering its children does
      enter_step : (s : ℕ) → ((x : ℕ) → IsChild c.tree s x → Enters x) → Enters s
      unfolding Enters
      enter_step s ih d w l =
          from_next (Left b k) (λ n. (upto c b n).enter s d now w)
          (search (
            then_settles (Left b k),
            choose_settles (Left b k),
            if_done_settles (Left b k),
            enter_inside_settles s d ih,
            block_settles,
            ends_now,
            entered_left,
          ) depth 15)

      enter_settles : (s d : ℕ) (w : World) → Left b k w → Settles (Left b k) (λ n. (upto c b n).enter s d now w)
      unfolding Enters
      enter_settles = tree_induction c.tree Enters enter_step

      defaults_settles : (s : ℕ) (w : World) → Left b k w → Settles (Left b k) (λ n. (upto c b n).defaults s now w)
      unfolding Enters
      defaults_settles s = defaults_step s (λ x i. enter_settles x)

      actives_settle : (s : ℕ) (w : World) → Left b k w → Settles (Left b k) (λ n. exit_active c (upto c b n) s now w)
      unfolding Exits
      actives_settle s w l = active_settles s (λ x i. exit_settles x) w l

      onward_settles : (s d : ℕ) (w : World) → Left b k w
          → Settles (Left b k) (λ n. enter_toward c (upto c b n) s d now w)
      unfolding Enters
      onward_settles s d w l =
          choose_settles (Left b k) _ (λ n. (upto c b n).defaults s now)
          (λ n. if_some (child_toward c.tree s d) (λ w. Ended tt w) (λ x. (upto c b n).enter x d now)) w
          (λ _. defaults_settles s w l) (λ _. toward_settles s d (λ x i. enter_settles x) w l)

      take_settles : (s d : ℕ) (actions : List (List Stmt)) (w : World) → Left b k w
          → Settles (Left b k) (λ n. (upto c b n).take s d actions now w)
      take_settles s d actions w l =
          from_next (Left b k) (λ n. (upto c b n).take s d actions now w)
          (search (
            then_settles (Left b k),
            choose_settles (Left b k),
            if_done_settles (Left b k),
            actives_settle,
            play_settles,
            onward_settles,
            ends_now,
          ) depth 15)

      -- processing a state settles
      Processes : ℕ → Type 0
      Processes s = (w : World) → Left b k w → Settles (Left b k) (λ n. (upto c b n).process s now w)

      after_region_settles : (xs : List ℕ)
          → ((w : World) → Left b k w → Settles (Left b k) (λ n. (upto c b n).process_each xs now w))
          → (r : Went) (w : World) → Left b k w → Settles (Left b k) (λ n. after_region c (upto c b n) xs now r w)
      after_region_settles xs h Stay w l = h w l
      after_region_settles xs h (Out s) w l = ends_now (Left b k) (Out s) w l

      process_each_settles : (xs : List ℕ) → AllByRecursion Processes xs → (w : World) → Left b k w
          → Settles (Left b k) (λ n. (upto c b n).process_each xs now w)
      unfolding Processes
      process_each_settles [] a w l =
          from_next (Left b k) (λ n. (upto c b n).process_each [] now w) (ends_now (Left b k) Stay w l)
      process_each_settles (x ∷ xs) a w l =
          from_next (Left b k) (λ n. (upto c b n).process_each (x ∷ xs) now w)
          (choose_settles (Left b k) _ (λ n. (upto c b n).process x now >>= after_region c (upto c b n) xs now)
          (λ n. (upto c b n).process_each xs now) w (λ _. then_settles (Left b k) (λ n. (upto c b n).process x now w)
          (λ n. after_region c (upto c b n) xs now) (a.0 w l) (after_region_settles xs (process_each_settles xs a.1)))
          (λ _. process_each_settles xs a.1 w l))

      from_child_settles : (s : ℕ) (r : Went) (w : World) → Left b k w → Settles (Left b k) (λ n. from_child s r w)
      from_child_settles s Stay w l = ends_now (Left b k) _ w l
      from_child_settles s (Out d) w l = search (choose_settles (Left b k), ends_now)

      process_children_settles : (s : ℕ) → ((x : ℕ) → IsChild c.tree s x → Processes x) → (o : Comp) (w : World)
          → Left b k w → Settles (Left b k) (λ n. process_children c (upto c b n) s now o w)
      unfolding Processes
      process_children_settles s ih Leaf w l = ends_now (Left b k) Stay w l
      process_children_settles s ih Or w l =
          if_some_settles (Left b k) (active_child c.tree s w.marks) (λ n w. Ended Stay w)
          (λ n x. (upto c b n).process x now >>= from_child s) w (ends_now (Left b k) Stay w l)
          (λ x e. then_settles (Left b k) (λ n. (upto c b n).process x now w) (λ n. from_child s)
          (ih x ((active_is_child c.tree tree s x w.marks e).1) w l) (from_child_settles s))
      process_children_settles s ih And w l =
          process_each_settles _
          (all_map (IsChild c.tree s) Processes (children_of c.tree s) ih (children_are c.tree tree s)) w l

      after_inner_settles : (s : ℕ) → ((x : ℕ) → IsChild c.tree s x → Processes x) → (f : Found) (w : World)
          → Left b k w → Settles (Left b k) (λ n. after_inner c (upto c b n) s now f w)
      after_inner_settles s ih (Fire d actions) w l = search (then_settles (Left b k), take_settles, ends_now)
      after_inner_settles s ih DeadEnd w l = process_children_settles s ih _ w l
      after_inner_settles s ih No w l = process_children_settles s ih _ w l
      after_inner_settles s ih Stop w l = ends_now (Left b k) Stay w l

      go_on_inside_settles : (s : ℕ) → ((x : ℕ) → IsChild c.tree s x → Processes x) → (w : World) → Left b k w
          → Settles (Left b k) (λ n. go_on_inside c (upto c b n) s now w)
      go_on_inside_settles s ih w l =
          search
          (then_settles (Left b k), if_done_settles (Left b k), block_settles, search_settles, after_inner_settles s ih)
          depth 9

      after_outer_settles : (s : ℕ) → ((x : ℕ) → IsChild c.tree s x → Processes x) → (f : Found) (w : World)
          → Left b k w → Settles (Left b k) (λ n. after_outer c (upto c b n) s now f w)
      after_outer_settles s ih (Fire d actions) w l = search (then_settles (Left b k), take_settles, ends_now)
      after_outer_settles s ih DeadEnd w l = go_on_inside_settles s ih w l
      after_outer_settles s ih No w l = go_on_inside_settles s ih w l
      after_outer_settles s ih Stop w l = ends_now (Left b k) Stay w l

      -- processing a state settles where processing its children does
      process_step : (s : ℕ) → ((x : ℕ) → IsChild c.tree s x → Processes x) → Processes s
      unfolding Processes
      process_step s ih w l =
          from_next (Left b k) (λ n. (upto c b n).process s now w)
          (search (then_settles (Left b k), search_settles, after_outer_settles s ih))

      process_settles : (s : ℕ) (w : World) → Left b k w → Settles (Left b k) (λ n. (upto c b n).process s now w)
      unfolding Processes
      process_settles = tree_induction c.tree Processes process_step

  module _ (tree : IsTree c.tree) where
    -- at the greatest depth a send settles
    at_deepest : (now : Now) → now.depth ≡ b.depth → (k e : ℕ) (to : Option ℕ) (w : World) → Left b k w
        → Settles (Left b k) (λ n. (upto c b n).send e to now w)
    at_deepest now at k e to w l =
        from_next (Left b k) (λ n. (upto c b n).send e to now w)
        (choose_settles (Left b k) (nat_le b.depth now.depth) (λ n. fault faults_of.Depth) _ w
        (λ _. faults_now (Left b k) faults_of.Depth w l) (λ h. absurd (grind (arith, nat_tests, h, at))))

    -- a send settles at each depth
    sends_settle : (d : ℕ) (now : Now) → now.depth + d ≡ b.depth → (k e : ℕ) (to : Option ℕ) (w : World) → Left b k w
        → Settles (Left b k) (λ n. (upto c b n).send e to now w)
    sends_settle zero now at k e to w l = at_deepest now (omega arith) k e to w l
    sends_settle (suc d) now at k e to w l =
        let next : Now = deeper e now in
        let sends = sends_settle d next (omega arith) in
        from_next (Left b k) (λ n. (upto c b n).send e to now w)
        (choose_settles (Left b k) (nat_le b.depth now.depth) (λ n. fault faults_of.Depth) _ w
        (λ _. faults_now (Left b k) faults_of.Depth w l) (λ _. search
        (then_settles (Left b k), choose_settles (Left b k), pay_settles, process_settles next sends k tree, ends_now)
        depth 9))

    pub process_ends : (d k s : ℕ) (now : Now) (w : World) → now.depth + d ≡ b.depth → Left b k w
        → Settles (Left b k) (λ n. (upto c b n).process s now w)
    process_ends d k s now w at l = process_settles now (sends_settle d now at) k tree s w l

    pub enter_ends : (d k s t : ℕ) (now : Now) (w : World) → now.depth + d ≡ b.depth → Left b k w
        → Settles (Left b k) (λ n. (upto c b n).enter s t now w)
    enter_ends d k s t now w at l = enter_settles now (sends_settle d now at) k tree s t w l
