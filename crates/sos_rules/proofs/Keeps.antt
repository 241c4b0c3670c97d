-- What every change of the rules keeps, each rule keeps.
use Rattle.std.proofs.Common.{◌≡◌, ℕ, zero, suc, ◌<◌, List, [], ◌∷◌, Option, Some, None, Result, Ok, Err, Bool, true}
use Rattle.std.proofs.Common.{false, refl, sym, subst, arith}
use Rattle.std.specs.List.{AllByRecursion}
use Rattle.flow_base.specs.declared.bounds.Bounds.{Bounds}
use Rattle.flow_base.specs.declared.fault.Fault.{Fault}
use Rattle.active_config.specs.declared.comp.Comp.{Comp}
use Rattle.active_config.specs.declared.comp.Comp.TheVariants.{Leaf, Or, And}
use Rattle.active_config.specs.Tree.{IsTree, children_of}
use Rattle.active_config.specs.Marks.{is_bare, active_child, can_mark, IsConsistent}
use Rattle.active_config.proofs.MarksLemmas.{cleared}
use Rattle.actions.specs.Exprs.{Expr, Stmt, Assign, Send, SendTo, Emit}
use Rattle.actions.specs.World.{World, emitted, Life}
use Rattle.actions.specs.Changes.{paid_in, assigned_in, truth_of, set_mark}
use Rattle.actions.specs.Work.{Run, Ended, Faulted, Unfinished, Work, then_do, choose, change_or_fault, flag_or_fault}
use Rattle.actions.specs.Work.{if_some, if_done, End, Done, Cut, Now}
use Rattle.sos_rules.proofs.MarkedStates.{all_reverse, active_is_child, entered_consistent}
use Rattle.actions.proofs.ChangeLemmas.{kept, paid_keeps, assigned_keeps}
use Rattle.sos_rules.specs.Parts.{Found, Fire, DeadEnd, No, Stop, Went, Stay, Out, Parts}
use Rattle.sos_rules.specs.Moves.{entered_in, exit_active, exit_children, if_bare, exit_rule, exit_each_rule}
use Rattle.sos_rules.specs.Moves.{enter_toward, enter_inside, enter_rule, enter_each_rule, after_default, defaults_rule}
use Rattle.sos_rules.specs.Moves.{take_rule}
use Rattle.sos_rules.specs.Searches.{pay, assign, guard_holds, is_enabled, while_alive, statement, block_rule}
use Rattle.sos_rules.specs.Searches.{send_rule, search_rule, after_junction, visit, at_dest, after_condition, play_rule}
use Rattle.sos_rules.specs.Processing.{from_child, process_children, after_inner, go_on_inside, after_outer}
use Rattle.sos_rules.specs.Processing.{process_rule, after_region, process_each_rule}
use Rattle.sos_rules.specs.Rules.{rules, upto}
use Rattle.checked_chart.proofs.Trees.{IsChild, all_map, children_are}
use Rattle.checked_chart.specs.Chart.{Chart, Trans}
use Rattle.checked_chart.specs.declared.parts.Dest.{Dest}
use Rattle.checked_chart.specs.declared.parts.Dest.TheVariants.{State, Junction}

-- P holds of the world at the end, also of a fault
pub data Finishes (P : World → Type 0) {A : Type 0} : Run A → Type 0 where
  ended : (a : A) (w : World) → P w → Finishes P (Ended a w)
  faulted : (x : Fault) (w : World) → P w → Finishes P (Faulted x w)
  unfinished : Finishes P Unfinished

-- each change that the rules make keeps it; the root's mark never goes
pub record Closed (c : Chart) (b : Bounds) (P : World → Type 0) : Type 0 where
  pub pays : (w v : World) → paid_in b w ≡ Ok v → P w → P v
  pub assigns : (x : ℕ) (e : Expr) (w v : World) → assigned_in x e w ≡ Ok v → P w → P v
  pub emits : (e : ℕ) (w : World) → P w → P (emitted e w)
  pub marks : (s : ℕ) (w : World) → can_mark c.tree s w.marks ≡ true → P w → P (entered_in c s w)
  pub clears : (s : ℕ) (w : World) → 0 < s → is_bare c.tree s w.marks ≡ true → P w → P (set_mark s false w)

-- each part keeps P
pub record Keeps (P : World → Type 0) (p : Parts) : Type 0 where
  pub block : (life : Life) (stmts : List Stmt) (now : Now) (w : World) → P w → Finishes P (p.block life stmts now w)
  pub send : (e : ℕ) (to : Option ℕ) (now : Now) (w : World) → P w → Finishes P (p.send e to now w)
  pub search : (life : Life) (ts : List Trans) (now : Now) (w : World) → P w → Finishes P (p.search life ts now w)
  pub exit : (s : ℕ) (now : Now) (w : World) → 0 < s → P w → Finishes P (p.exit s now w)
  pub exit_each : (xs : List ℕ) (now : Now) (w : World) → AllByRecursion (λ x. 0 < x) xs → P w
      → Finishes P (p.exit_each xs now w)
  pub enter : (s d : ℕ) (now : Now) (w : World) → P w → Finishes P (p.enter s d now w)
  pub enter_each : (xs : List ℕ) (d : ℕ) (now : Now) (w : World) → P w → Finishes P (p.enter_each xs d now w)
  pub defaults : (s : ℕ) (now : Now) (w : World) → P w → Finishes P (p.defaults s now w)
  pub play : (s : ℕ) (actions : List (List Stmt)) (now : Now) (w : World) → P w → Finishes P (p.play s actions now w)
  pub take : (s d : ℕ) (actions : List (List Stmt)) (now : Now) (w : World) → P w
      → Finishes P (p.take s d actions now w)
  pub process : (s : ℕ) (now : Now) (w : World) → P w → Finishes P (p.process s now w)
  pub process_each : (xs : List ℕ) (now : Now) (w : World) → P w → Finishes P (p.process_each xs now w)

module _ (P : World → Type 0) where
  -- the forms of work keep P, where their parts do
  pub then_finishes : {A B : Type 0} {r : Run A} {f : A → Work B} → Finishes P r
      → ((a : A) (w : World) → P w → Finishes P (f a w)) → Finishes P (then_do r f)
  then_finishes (ended a w h) k = k a w h
  then_finishes (faulted x w h) k = faulted x w h
  then_finishes unfinished k = unfinished

  pub choose_finishes : {A : Type 0} (b : Bool) (m k : Work A) (w : World) → (b ≡ true → Finishes P (m w))
      → (b ≡ false → Finishes P (k w)) → Finishes P (choose b m k w)
  choose_finishes true m k w h i = h refl
  choose_finishes false m k w h i = i refl

  pub if_done_finishes : {A : Type 0} (e : End) (a : A) (m : Work A) (w : World) → P w → Finishes P (m w)
      → Finishes P (if_done e a m w)
  if_done_finishes Done a m w p h = h
  if_done_finishes Cut a m w p h = ended a w p

  pub if_some_finishes : {A : Type 0} (o : Option ℕ) (m : Work A) (f : ℕ → Work A) (w : World) → Finishes P (m w)
      → ((x : ℕ) → o ≡ Some x → Finishes P (f x w)) → Finishes P (if_some o m f w)
  if_some_finishes None m f w h i = h
  if_some_finishes (Some x) m f w h i = i x refl

  -- a change keeps P, and so does a test
  changed : (r : Result World Fault) (w : World) → P w → ((v : World) → r ≡ Ok v → P v)
      → Finishes P (change_or_fault r w)
  changed (Ok v) w p h = ended tt v (h v refl)
  changed (Err x) w p h = faulted x w p

  flagged : (r : Result Bool Fault) (w : World) → P w → Finishes P (flag_or_fault r w)
  flagged (Ok b) w p = ended b w p
  flagged (Err x) w p = faulted x w p

module _ (c : Chart) (tree : IsTree c.tree) (b : Bounds) (P : World → Type 0) (ok : Closed c b P) where
  -- each change and each test of the rules keeps P
  assign_finishes : (v : ℕ) (e : Expr) (w : World) → P w → Finishes P (assign v e w)
  assign_finishes v e w p = changed P (assigned_in v e w) w p (λ u q. ok.assigns v e w u q p)

  pub pay_finishes : (w : World) → P w → Finishes P (pay b w)
  pay_finishes w p = changed P (paid_in b w) w p (λ u q. ok.pays w u q p)

  guard_finishes : (g : Option Expr) (w : World) → P w → Finishes P (guard_holds g w)
  guard_finishes None w p = ended true w p
  guard_finishes (Some g) w p = flagged P (truth_of g w) w p

  module _ (p : Parts) (h : Keeps P p) where
    alive_finishes : (life : Life) (w : World) → P w → Finishes P (while_alive c.tree life w)
    alive_finishes life w k = search (choose_finishes P, ended)

    -- each rule over parts that keep P keeps P
    pub statement_finishes : (life : Life) (s : Stmt) (now : Now) (w : World) → P w
        → Finishes P (statement c b p life s now w)
    statement_finishes life (Assign v e) now w k =
        then_finishes P (assign_finishes v e w k) (λ _ w' k'. ended Done w' k')
    statement_finishes life (Emit e) now w k =
        then_finishes P (pay_finishes w k) (λ _ w' k'. ended Done (emitted e w') (ok.emits e w' k'))
    statement_finishes life (Send e) now w k = search (then_finishes P, alive_finishes, h.send)
    statement_finishes life (SendTo e s) now w k = search (then_finishes P, alive_finishes, h.send)

    block_finishes : (life : Life) (stmts : List Stmt) (now : Now) (w : World) → P w
        → Finishes P (block_rule c b p life stmts now w)
    block_finishes life [] now w k = ended Done w k
    block_finishes life (s ∷ rest) now w k = search (then_finishes P, if_done_finishes P, statement_finishes, h.block)

    pub send_finishes : (e : ℕ) (to : Option ℕ) (now : Now) (w : World) → P w → Finishes P (send_rule c b p e to now w)
    send_finishes e to now w k =
        search (then_finishes P, choose_finishes P, pay_finishes, ended, faulted, h.process) depth 9

    after_junction_finishes : (life : Life) (action : List Stmt) (rest : List Trans) (now : Now) (f : Found) (w : World)
        → P w → Finishes P (after_junction c b p life action rest now f w)
    after_junction_finishes life action rest now (Fire d actions) w k = ended _ w k
    after_junction_finishes life action rest now DeadEnd w k = ended _ w k
    after_junction_finishes life action rest now No w k = h.search life rest now w k
    after_junction_finishes life action rest now Stop w k = ended _ w k

    visit_finishes : (life : Life) (action : List Stmt) (rest : List Trans) (now : Now) (ts : List Trans) (w : World)
        → P w → Finishes P (visit c b p life action rest now ts w)
    visit_finishes life action rest now [] w k = ended _ w k
    visit_finishes life action rest now (t ∷ ts) w k = search (then_finishes P, h.search, after_junction_finishes)

    at_dest_finishes : (life : Life) (action : List Stmt) (rest : List Trans) (now : Now) (d : Dest) (w : World) → P w
        → Finishes P (at_dest c b p life action rest now d w)
    at_dest_finishes life action rest now (State d) w k = ended _ w k
    at_dest_finishes life action rest now (Junction j) w k = search (then_finishes P, pay_finishes, visit_finishes)

    after_condition_finishes : (life : Life) (t : Trans) (rest : List Trans) (now : Now) (e : End) (w : World) → P w
        → Finishes P (after_condition c b p life t rest now e w)
    after_condition_finishes life t rest now Done w k = at_dest_finishes life t.action rest now t.dest w k
    after_condition_finishes life t rest now Cut w k = ended _ w k

    enabled_finishes : (t : Trans) (now : Now) (w : World) → P w → Finishes P (is_enabled t now w)
    enabled_finishes t now w k = search (choose_finishes P, guard_finishes, ended)

    search_finishes : (life : Life) (ts : List Trans) (now : Now) (w : World) → P w
        → Finishes P (search_rule c b p life ts now w)
    search_finishes life [] now w k = ended _ w k
    search_finishes life (t ∷ ts) now w k =
        then_finishes P (enabled_finishes t now w k)
        (λ e w' k'. search (then_finishes P, choose_finishes P, h.block, h.search, after_condition_finishes))

    pub exit_active_finishes : (s : ℕ) (now : Now) (w : World) → P w → Finishes P (exit_active c p s now w)
    exit_active_finishes s now w k =
        if_some_finishes P (active_child c.tree s w.marks) _ (λ x. p.exit x now) w (ended _ w k)
        (λ x e. let i = (active_is_child c.tree tree s x w.marks e).1 in h.exit x now w (omega (arith, i.above)) k)

    pub exit_children_finishes : (s : ℕ) (now : Now) (o : Comp) (w : World) → P w
        → Finishes P (exit_children c p s now o w)
    exit_children_finishes s now Leaf w k = ended _ w k
    exit_children_finishes s now Or w k = exit_active_finishes s now w k
    exit_children_finishes s now And w k =
        h.exit_each _ now w (all_reverse _ (children_of c.tree s)
        (all_map (IsChild c.tree s) _ (children_of c.tree s) (λ x i. omega (arith, i.above))
        (children_are c.tree tree s))) k

    pub if_bare_finishes : (s : ℕ) (m : Work (Unit {0})) (w : World) → P w
        → (is_bare c.tree s w.marks ≡ true → Finishes P (m w)) → Finishes P (if_bare c.tree s m w)
    if_bare_finishes s m w k i = choose_finishes P (is_bare c.tree s w.marks) m _ w i (λ _. ended tt w k)

    exit_finishes : (s : ℕ) (now : Now) (w : World) → 0 < s → P w → Finishes P (exit_rule c p s now w)
    exit_finishes s now w pos k =
        search
        (then_finishes P, choose_finishes P, if_done_finishes P, ended, h.block, exit_children_finishes, ok.clears)
        depth 15

    exit_each_finishes : (xs : List ℕ) (now : Now) (w : World) → AllByRecursion (λ x. 0 < x) xs → P w
        → Finishes P (exit_each_rule c p xs now w)
    exit_each_finishes [] now w a k = ended _ w k
    exit_each_finishes (x ∷ xs) now w a k =
        then_finishes P (h.exit x now w a.0 k) (λ _ w' k'. h.exit_each xs now w' a.1 k')

    pub toward_finishes : (s d : ℕ) (now : Now) (w : World) → P w → Finishes P (enter_toward c p s d now w)
    toward_finishes s d now w k = search (choose_finishes P, if_some_finishes P, ended, h.defaults, h.enter)

    pub enter_inside_finishes : (s d : ℕ) (now : Now) (o : Comp) (w : World) → P w
        → Finishes P (enter_inside c p s d now o w)
    enter_inside_finishes s d now Leaf w k = ended _ w k
    enter_inside_finishes s d now Or w k = toward_finishes s d now w k
    enter_inside_finishes s d now And w k = h.enter_each _ d now w k

    enter_finishes : (s d : ℕ) (now : Now) (w : World) → P w → Finishes P (enter_rule c p s d now w)
    enter_finishes s d now w k =
        search (then_finishes P, choose_finishes P, if_done_finishes P, ended, h.block, enter_inside_finishes, ok.marks)
        depth 15

    enter_each_finishes : (xs : List ℕ) (d : ℕ) (now : Now) (w : World) → P w
        → Finishes P (enter_each_rule c p xs d now w)
    enter_each_finishes [] d now w k = ended _ w k
    enter_each_finishes (x ∷ xs) d now w k = search (then_finishes P, h.enter, h.enter_each)

    pub after_default_finishes : (s : ℕ) (now : Now) (f : Found) (w : World) → P w
        → Finishes P (after_default c p s now f w)
    after_default_finishes s now (Fire d actions) w k =
        search (then_finishes P, if_done_finishes P, if_some_finishes P, ended, h.play, h.enter) depth 9
    after_default_finishes s now DeadEnd w k = ended _ w k
    after_default_finishes s now No w k = ended _ w k
    after_default_finishes s now Stop w k = ended _ w k

    defaults_finishes : (s : ℕ) (now : Now) (w : World) → P w → Finishes P (defaults_rule c p s now w)
    defaults_finishes s now w k =
        search (if_some_finishes P, then_finishes P, h.search, h.enter, after_default_finishes)

    play_finishes : (s : ℕ) (actions : List (List Stmt)) (now : Now) (w : World) → P w
        → Finishes P (play_rule c b p s actions now w)
    play_finishes s [] now w k = ended _ w k
    play_finishes s ([] ∷ actions) now w k = h.play s actions now w k
    play_finishes s ((x ∷ xs) ∷ actions) now w k =
        search (then_finishes P, if_done_finishes P, pay_finishes, h.play, h.block) depth 9

    take_finishes : (s d : ℕ) (actions : List (List Stmt)) (now : Now) (w : World) → P w
        → Finishes P (take_rule c p s d actions now w)
    take_finishes s d actions now w k =
        search
        (then_finishes P, exit_active_finishes, choose_finishes P, if_done_finishes P, ended, h.play, toward_finishes)
        depth 15

    from_child_finishes : (s : ℕ) (r : Went) (w : World) → P w → Finishes P (from_child s r w)
    from_child_finishes s Stay w k = ended _ w k
    from_child_finishes s (Out d) w k = search (choose_finishes P, ended)

    pub process_children_finishes : (s : ℕ) (now : Now) (o : Comp) (w : World) → P w
        → Finishes P (process_children c p s now o w)
    process_children_finishes s now Leaf w k = ended _ w k
    process_children_finishes s now Or w k =
        search (then_finishes P, if_some_finishes P, ended, h.process, from_child_finishes)
    process_children_finishes s now And w k = h.process_each _ now w k

    after_inner_finishes : (s : ℕ) (now : Now) (f : Found) (w : World) → P w → Finishes P (after_inner c p s now f w)
    after_inner_finishes s now (Fire d actions) w k = search (then_finishes P, ended, h.take)
    after_inner_finishes s now DeadEnd w k = process_children_finishes s now _ w k
    after_inner_finishes s now No w k = process_children_finishes s now _ w k
    after_inner_finishes s now Stop w k = ended _ w k

    pub inside_finishes : (s : ℕ) (now : Now) (w : World) → P w → Finishes P (go_on_inside c p s now w)
    inside_finishes s now w k =
        search (then_finishes P, if_done_finishes P, h.block, h.search, after_inner_finishes) depth 9

    after_outer_finishes : (s : ℕ) (now : Now) (f : Found) (w : World) → P w → Finishes P (after_outer c p s now f w)
    after_outer_finishes s now (Fire d actions) w k = search (then_finishes P, ended, h.take)
    after_outer_finishes s now DeadEnd w k = inside_finishes s now w k
    after_outer_finishes s now No w k = inside_finishes s now w k
    after_outer_finishes s now Stop w k = ended _ w k

    process_finishes : (s : ℕ) (now : Now) (w : World) → P w → Finishes P (process_rule c p s now w)
    process_finishes s now w k = search (then_finishes P, h.search, after_outer_finishes)

    after_region_finishes : (xs : List ℕ) (now : Now) (r : Went) (w : World) → P w
        → Finishes P (after_region c p xs now r w)
    after_region_finishes xs now Stay w k = h.process_each xs now w k
    after_region_finishes xs now (Out s) w k = ended _ w k

    process_each_finishes : (xs : List ℕ) (now : Now) (w : World) → P w → Finishes P (process_each_rule c p xs now w)
    process_each_finishes [] now w k = ended _ w k
    process_each_finishes (x ∷ xs) now w k =
        search (then_finishes P, choose_finishes P, h.process, h.process_each, after_region_finishes)

    -- the rules over parts that keep P keep P
    rules_keep : Keeps P (rules c b p)
    rules_keep = record {
      block = block_finishes;
      send = send_finishes;
      search = search_finishes;
      exit = exit_finishes;
      exit_each = exit_each_finishes;
      enter = enter_finishes;
      enter_each = enter_each_finishes;
      defaults = defaults_finishes;
      play = play_finishes;
      take = take_finishes;
      process = process_finishes;
      process_each = process_each_finishes;
    }

  -- the rules keep P at each height
  pub upto_keep : (n : ℕ) → Keeps P (upto c b n)
  upto_keep zero = record {
    block = λ _ _ _ _ _. unfinished;
    send = λ _ _ _ _ _. unfinished;
    search = λ _ _ _ _ _. unfinished;
    exit = λ _ _ _ _ _. unfinished;
    exit_each = λ _ _ _ _ _. unfinished;
    enter = λ _ _ _ _ _. unfinished;
    enter_each = λ _ _ _ _ _. unfinished;
    defaults = λ _ _ _ _. unfinished;
    play = λ _ _ _ _ _. unfinished;
    take = λ _ _ _ _ _ _. unfinished;
    process = λ _ _ _ _. unfinished;
    process_each = λ _ _ _ _. unfinished;
  }
  upto_keep (suc n) = rules_keep (upto c b n) (upto_keep n)

-- the active states stay consistent
abbrev pub Consistent : Chart → World → Type 0
Consistent c w = IsConsistent c.tree w.marks

-- each change of the rules keeps active states consistent
pub consistent_closed : (c : Chart) (b : Bounds) → Closed c b (Consistent c)
consistent_closed c b = record {
  pays = λ w v e k. same c w v (kept w (paid_keeps b w) e) k;
  assigns = λ x e w v q k. same c w v (kept w (assigned_keeps x e w) q) k;
  emits = λ e w k. k;
  marks = λ s w can k. entered_consistent c s w can k;
  clears = λ s w pos bare k. cleared c.tree w.marks k s bare;
}
  where
    same : (c : Chart) (w v : World) → v.marks ≡ w.marks → Consistent c w → Consistent c v
    same c w v e k = subst (IsConsistent c.tree) (sym e) k
