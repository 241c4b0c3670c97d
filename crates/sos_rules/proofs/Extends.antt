-- A greater height changes nothing of what is over.
use Rattle.std.proofs.Common.{◌≡◌, ℕ, zero, suc, ◌≤◌, List, [], ◌∷◌, Option, Some, None, Bool, true, false, arith}
use Rattle.flow_base.specs.declared.bounds.Bounds.{Bounds}
use Rattle.active_config.specs.declared.comp.Comp.{Comp}
use Rattle.active_config.specs.declared.comp.Comp.TheVariants.{Leaf, Or, And}
use Rattle.actions.specs.Exprs.{Stmt, Assign, Send, SendTo, Emit}
use Rattle.actions.specs.World.{World, Life}
use Rattle.actions.specs.Work.{Run, Ended, Faulted, Unfinished, Work, then_do, choose, if_some, if_done, End, Done}
use Rattle.actions.specs.Work.{Cut, Now}
use Rattle.sos_rules.specs.Parts.{Found, Fire, DeadEnd, No, Stop, Went, Stay, Out, Parts}
use Rattle.sos_rules.specs.Searches.{statement, block_rule, send_rule, search_rule, after_junction, visit, at_dest}
use Rattle.sos_rules.specs.Searches.{after_condition, play_rule}
use Rattle.sos_rules.specs.Moves.{exit_active, exit_children, exit_rule, exit_each_rule, enter_inside, enter_rule}
use Rattle.sos_rules.specs.Moves.{enter_each_rule, after_default, defaults_rule, take_rule}
use Rattle.sos_rules.specs.Processing.{process_children, after_inner, go_on_inside, after_outer, process_rule}
use Rattle.sos_rules.specs.Processing.{after_region, process_each_rule}
use Rattle.sos_rules.specs.Rules.{rules, upto}
use Rattle.checked_chart.specs.Chart.{Chart, Trans}
use Rattle.checked_chart.specs.declared.parts.Dest.{Dest}
use Rattle.checked_chart.specs.declared.parts.Dest.TheVariants.{State, Junction}

-- the second is the first, if the first is over
pub data Extends {A : Type 0} : Run A → Run A → Type 0 where
  later : {r : Run A} → Extends Unfinished r
  same : {r : Run A} → Extends r r

pub record Below (p q : Parts) : Type 0 where
  pub block : (life : Life) (stmts : List Stmt) (now : Now) (w : World)
      → Extends (p.block life stmts now w) (q.block life stmts now w)
  pub send : (e : ℕ) (to : Option ℕ) (now : Now) (w : World) → Extends (p.send e to now w) (q.send e to now w)
  pub search : (life : Life) (ts : List Trans) (now : Now) (w : World)
      → Extends (p.search life ts now w) (q.search life ts now w)
  pub exit : (s : ℕ) (now : Now) (w : World) → Extends (p.exit s now w) (q.exit s now w)
  pub exit_each : (xs : List ℕ) (now : Now) (w : World) → Extends (p.exit_each xs now w) (q.exit_each xs now w)
  pub enter : (s d : ℕ) (now : Now) (w : World) → Extends (p.enter s d now w) (q.enter s d now w)
  pub enter_each : (xs : List ℕ) (d : ℕ) (now : Now) (w : World)
      → Extends (p.enter_each xs d now w) (q.enter_each xs d now w)
  pub defaults : (s : ℕ) (now : Now) (w : World) → Extends (p.defaults s now w) (q.defaults s now w)
  pub play : (s : ℕ) (actions : List (List Stmt)) (now : Now) (w : World)
      → Extends (p.play s actions now w) (q.play s actions now w)
  pub take : (s d : ℕ) (actions : List (List Stmt)) (now : Now) (w : World)
      → Extends (p.take s d actions now w) (q.take s d actions now w)
  pub process : (s : ℕ) (now : Now) (w : World) → Extends (p.process s now w) (q.process s now w)
  pub process_each : (xs : List ℕ) (now : Now) (w : World) → Extends (p.process_each xs now w) (q.process_each xs now w)

-- the same work goes on as before, if what comes after it does
then_same : {A B : Type 0} (r : Run A) (f g : A → Work B) → ((a : A) (w : World) → Extends (f a w) (g a w))
    → Extends (then_do r f) (then_do r g)
then_same (Ended a w) f g h = h a w
then_same (Faulted x w) f g h = same
then_same Unfinished f g h = same

-- the forms of work extend, where their parts do
pub then_extends : {A B : Type 0} {r s : Run A} {f g : A → Work B} → Extends r s
    → ((a : A) (w : World) → Extends (f a w) (g a w)) → Extends (then_do r f) (then_do s g)
then_extends later h = later
then_extends {f = f} {g = g} (same {r = r}) h = then_same r f g h

pub choose_extends : {A : Type 0} (b : Bool) (m n k l : Work A) (w : World) → Extends (m w) (n w) → Extends (k w) (l w)
    → Extends (choose b m k w) (choose b n l w)
choose_extends true m n k l w h i = h
choose_extends false m n k l w h i = i

pub if_done_extends : {A : Type 0} (e : End) (a : A) (m n : Work A) (w : World) → Extends (m w) (n w)
    → Extends (if_done e a m w) (if_done e a n w)
if_done_extends Done a m n w h = h
if_done_extends Cut a m n w h = same

pub if_some_extends : {A : Type 0} (o : Option ℕ) (m n : Work A) (f g : ℕ → Work A) (w : World) → Extends (m w) (n w)
    → ((x : ℕ) → Extends (f x w) (g x w)) → Extends (if_some o m f w) (if_some o n g w)
if_some_extends None m n f g w h i = h
if_some_extends (Some x) m n f g w h i = i x

module _ (c : Chart) (b : Bounds) (p q : Parts) (h : Below p q) where
  -- each rule over the parts q extends that over the parts p
  statement_extends : (life : Life) (s : Stmt) (now : Now) (w : World)
      → Extends (statement c b p life s now w) (statement c b q life s now w)
  statement_extends life (Assign v e) now w = same
  statement_extends life (Emit e) now w = same
  statement_extends life (Send e) now w = search (then_extends, same, h.send)
  statement_extends life (SendTo e s) now w = search (then_extends, same, h.send)

  pub block_extends : (life : Life) (stmts : List Stmt) (now : Now) (w : World)
      → Extends (block_rule c b p life stmts now w) (block_rule c b q life stmts now w)
  block_extends life [] now w = same
  block_extends life (s ∷ rest) now w = search (then_extends, if_done_extends, statement_extends, h.block)

  pub send_extends : (e : ℕ) (to : Option ℕ) (now : Now) (w : World)
      → Extends (send_rule c b p e to now w) (send_rule c b q e to now w)
  send_extends e to now w = search (then_extends, choose_extends, same, h.process) depth 9

  after_junction_extends : (life : Life) (action : List Stmt) (rest : List Trans) (now : Now) (f : Found) (w : World)
      → Extends (after_junction c b p life action rest now f w) (after_junction c b q life action rest now f w)
  after_junction_extends life action rest now (Fire d actions) w = same
  after_junction_extends life action rest now DeadEnd w = same
  after_junction_extends life action rest now No w = h.search life rest now w
  after_junction_extends life action rest now Stop w = same

  visit_extends : (life : Life) (action : List Stmt) (rest : List Trans) (now : Now) (ts : List Trans) (w : World)
      → Extends (visit c b p life action rest now ts w) (visit c b q life action rest now ts w)
  visit_extends life action rest now [] w = same
  visit_extends life action rest now (t ∷ ts) w = search (then_extends, h.search, after_junction_extends)

  at_dest_extends : (life : Life) (action : List Stmt) (rest : List Trans) (now : Now) (d : Dest) (w : World)
      → Extends (at_dest c b p life action rest now d w) (at_dest c b q life action rest now d w)
  at_dest_extends life action rest now (State d) w = same
  at_dest_extends life action rest now (Junction j) w = search (then_extends, same, visit_extends)

  after_condition_extends : (life : Life) (t : Trans) (rest : List Trans) (now : Now) (e : End) (w : World)
      → Extends (after_condition c b p life t rest now e w) (after_condition c b q life t rest now e w)
  after_condition_extends life t rest now Done w = at_dest_extends life t.action rest now t.dest w
  after_condition_extends life t rest now Cut w = same

  pub search_extends : (life : Life) (ts : List Trans) (now : Now) (w : World)
      → Extends (search_rule c b p life ts now w) (search_rule c b q life ts now w)
  search_extends life [] now w = same
  search_extends life (t ∷ ts) now w =
      search (then_extends, choose_extends, same, h.block, h.search, after_condition_extends)

  active_extends : (s : ℕ) (now : Now) (w : World) → Extends (exit_active c p s now w) (exit_active c q s now w)
  active_extends s now w = search (then_extends, if_some_extends, same, h.exit)

  exit_children_extends : (s : ℕ) (now : Now) (k : Comp) (w : World)
      → Extends (exit_children c p s now k w) (exit_children c q s now k w)
  exit_children_extends s now Leaf w = same
  exit_children_extends s now Or w = active_extends s now w
  exit_children_extends s now And w = search h.exit_each

  pub exit_extends : (s : ℕ) (now : Now) (w : World) → Extends (exit_rule c p s now w) (exit_rule c q s now w)
  exit_extends s now w =
      search (then_extends, choose_extends, same, h.block, exit_children_extends) depth 15

  pub exit_each_extends : (xs : List ℕ) (now : Now) (w : World)
      → Extends (exit_each_rule c p xs now w) (exit_each_rule c q xs now w)
  exit_each_extends [] now w = same
  exit_each_extends (x ∷ xs) now w = search (then_extends, h.exit, h.exit_each)

  enter_inside_extends : (s d : ℕ) (now : Now) (k : Comp) (w : World)
      → Extends (enter_inside c p s d now k w) (enter_inside c q s d now k w)
  enter_inside_extends s d now Leaf w = same
  enter_inside_extends s d now Or w = search (choose_extends, if_some_extends, same, h.defaults, h.enter)
  enter_inside_extends s d now And w = search h.enter_each

  pub enter_extends : (s d : ℕ) (now : Now) (w : World) → Extends (enter_rule c p s d now w) (enter_rule c q s d now w)
  enter_extends s d now w =
      search (then_extends, choose_extends, if_done_extends, same, h.block, enter_inside_extends) depth 15

  pub enter_each_extends : (xs : List ℕ) (d : ℕ) (now : Now) (w : World)
      → Extends (enter_each_rule c p xs d now w) (enter_each_rule c q xs d now w)
  enter_each_extends [] d now w = same
  enter_each_extends (x ∷ xs) d now w = search (then_extends, h.enter, h.enter_each)

  after_default_extends : (s : ℕ) (now : Now) (f : Found) (w : World)
      → Extends (after_default c p s now f w) (after_default c q s now f w)
  after_default_extends s now (Fire d actions) w =
      search (then_extends, if_done_extends, if_some_extends, same, h.play, h.enter) depth 9
  after_default_extends s now DeadEnd w = same
  after_default_extends s now No w = same
  after_default_extends s now Stop w = same

  pub defaults_extends : (s : ℕ) (now : Now) (w : World)
      → Extends (defaults_rule c p s now w) (defaults_rule c q s now w)
  defaults_extends s now w = search (if_some_extends, then_extends, h.search, h.enter, after_default_extends)

  pub play_extends : (s : ℕ) (actions : List (List Stmt)) (now : Now) (w : World)
      → Extends (play_rule c b p s actions now w) (play_rule c b q s actions now w)
  play_extends s [] now w = same
  play_extends s ([] ∷ actions) now w = h.play s actions now w
  play_extends s ((x ∷ xs) ∷ actions) now w = search (then_extends, if_done_extends, same, h.play, h.block) depth 9

  pub take_extends : (s d : ℕ) (actions : List (List Stmt)) (now : Now) (w : World)
      → Extends (take_rule c p s d actions now w) (take_rule c q s d actions now w)
  take_extends s d actions now w =
      search (
        then_extends,
        choose_extends,
        if_done_extends,
        if_some_extends,
        same,
        active_extends,
        h.play,
        h.defaults,
        h.enter,
      ) depth 15

  process_children_extends : (s : ℕ) (now : Now) (k : Comp) (w : World)
      → Extends (process_children c p s now k w) (process_children c q s now k w)
  process_children_extends s now Leaf w = same
  process_children_extends s now Or w = search (then_extends, if_some_extends, same, h.process)
  process_children_extends s now And w = search h.process_each

  after_inner_extends : (s : ℕ) (now : Now) (f : Found) (w : World)
      → Extends (after_inner c p s now f w) (after_inner c q s now f w)
  after_inner_extends s now (Fire d actions) w = search (then_extends, same, h.take)
  after_inner_extends s now DeadEnd w = search process_children_extends
  after_inner_extends s now No w = search process_children_extends
  after_inner_extends s now Stop w = same

  go_on_inside_extends : (s : ℕ) (now : Now) (w : World) → Extends (go_on_inside c p s now w) (go_on_inside c q s now w)
  go_on_inside_extends s now w =
      search (then_extends, if_done_extends, h.block, h.search, after_inner_extends) depth 9

  after_outer_extends : (s : ℕ) (now : Now) (f : Found) (w : World)
      → Extends (after_outer c p s now f w) (after_outer c q s now f w)
  after_outer_extends s now (Fire d actions) w = search (then_extends, same, h.take)
  after_outer_extends s now DeadEnd w = search go_on_inside_extends
  after_outer_extends s now No w = search go_on_inside_extends
  after_outer_extends s now Stop w = same

  pub process_extends : (s : ℕ) (now : Now) (w : World) → Extends (process_rule c p s now w) (process_rule c q s now w)
  process_extends s now w = search (then_extends, h.search, after_outer_extends)

  after_region_extends : (xs : List ℕ) (now : Now) (r : Went) (w : World)
      → Extends (after_region c p xs now r w) (after_region c q xs now r w)
  after_region_extends xs now Stay w = search h.process_each
  after_region_extends xs now (Out s) w = same

  pub process_each_extends : (xs : List ℕ) (now : Now) (w : World)
      → Extends (process_each_rule c p xs now w) (process_each_rule c q xs now w)
  process_each_extends [] now w = same
  process_each_extends (x ∷ xs) now w =
      search (then_extends, choose_extends, same, h.process, h.process_each, after_region_extends)

  pub rules_below : Below (rules c b p) (rules c b q)
  rules_below = record {
    block = block_extends;
    send = send_extends;
    search = search_extends;
    exit = exit_extends;
    exit_each = exit_each_extends;
    enter = enter_extends;
    enter_each = enter_each_extends;
    defaults = defaults_extends;
    play = play_extends;
    take = take_extends;
    process = process_extends;
    process_each = process_each_extends;
  }

-- more height keeps what is over
pub upto_below : (c : Chart) (b : Bounds) (m n : ℕ) → m ≤ n → Below (upto c b m) (upto c b n)
upto_below c b zero n le = record {
  block = λ _ _ _ _. later;
  send = λ _ _ _ _. later;
  search = λ _ _ _ _. later;
  exit = λ _ _ _. later;
  exit_each = λ _ _ _. later;
  enter = λ _ _ _ _. later;
  enter_each = λ _ _ _ _. later;
  defaults = λ _ _ _. later;
  play = λ _ _ _ _. later;
  take = λ _ _ _ _ _. later;
  process = λ _ _ _. later;
  process_each = λ _ _ _. later;
}
upto_below c b (suc m) zero le = absurd (omega arith)
upto_below c b (suc m) (suc n) le = rules_below c b (upto c b m) (upto c b n) (upto_below c b m n (omega arith))

-- what ended at a height ends in the same way at a greater one
pub ended_extends : {A : Type 0} {r s : Run A} → Extends r s → (a : A) (w : World) → r ≡ Ended a w → s ≡ Ended a w
ended_extends later a w e = absurd (cc)
ended_extends same a w e = e
