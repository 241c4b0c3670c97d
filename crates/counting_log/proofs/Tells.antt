-- The rules with counters and a log run as those without a log, and keep what each of their changes keeps.
use Rattle.std.proofs.Common.{ℕ, zero, suc, List, [], ◌∷◌, Option, Some, None, Result, Ok, Err, Bool, true, false}
use Rattle.flow_base.specs.declared.bounds.Bounds.{Bounds}
use Rattle.flow_base.specs.declared.fault.Fault.{Fault}
use Rattle.active_config.specs.declared.comp.Comp.{Comp}
use Rattle.active_config.specs.declared.comp.Comp.TheVariants.{Leaf, Or, And}
use Rattle.active_config.specs.Marks.{can_mark}
use Rattle.active_config.specs.Tree.{comp_of}
use Rattle.actions.specs.Exprs.{Expr, Stmt, Assign, Send, SendTo, Emit}
use Rattle.actions.specs.World.{World, emitted, Life, On, Bare}
use Rattle.actions.specs.Changes.{set_mark, truth_of}
use Rattle.actions.specs.Work as work
use Rattle.actions.specs.Work.{Run, End, Done, Cut, Now, flag_or_fault}
use Rattle.checked_chart.specs.declared.parts.Dest.{Dest}
use Rattle.checked_chart.specs.declared.parts.Dest.TheVariants.{State, Junction}
use Rattle.checked_chart.specs.Chart.{Chart, Trans, node}
use Rattle.sos_rules.specs.Parts as parts
use Rattle.sos_rules.specs.Parts.{Found, Fire, DeadEnd, No, Stop, Went, Stay, Out}
use Rattle.sos_rules.specs.Searches as searches
use Rattle.sos_rules.specs.Moves as moves
use Rattle.sos_rules.specs.Moves.{entered_in, remembered}
use Rattle.sos_rules.specs.Processing as processing
use Rattle.counting_rules.specs.Counters.{Counters, reset, count, of_root}
use Rattle.counting_rules.specs.Rules.{counting_enter, counting_inside, counting_outer}
use Rattle.counting_rules.specs.Rules.{counting_process, counting_rules, counting_upto}
use Rattle.counting_log.specs.Work as logged
use Rattle.counting_log.specs.Rules as noting
use Rattle.counting_log.specs.Log.{Note}
use Rattle.counting_log.specs.Work.{Logged}
use Rattle.counting_log.specs.Tells.{Tells, ended, faulted, unfinished, Matches}

-- each change of the rules keeps P
pub record Sound (c : Chart) (k : Counters) (b : Bounds) (P : World → List Note → Type 0) : Type 0 where
  pub pays : (w : World) (l : List Note) → P w l → Tells P (noting.pay b w l) (searches.pay b w)
  pub assigns : (v : ℕ) (e : Expr) (w : World) (l : List Note) → P w l → Tells P (noting.assign v e w l) (searches.assign v e w)
  pub emits : (e : ℕ) (w : World) (l : List Note) → P w l → P (emitted e w) l
  pub marks : (s : ℕ) (w : World) (l : List Note) → P w l → P (entered_in c s w) l
  pub clears : (s : ℕ) (w : World) (l : List Note) → P w l → P (set_mark s false w) l
  pub resets : (s : ℕ) (w : World) (l : List Note) → P w l
      → Tells P (noting.reset_noted k s w l) (reset (k.resets s) w)
  pub counts : (now : Now) (w : World) (l : List Note) → P w l
      → Tells P (noting.count_noted k b now w l) (count b k.counted now w)

module _ (P : World → List Note → Type 0) where
  -- the forms of work
  pub then_tells : {A B : Type 0} {r : Logged A} {s : Run A} {f : A → logged.Work B} {g : A → work.Work B} → Tells P r s
      → ((a : A) (w : World) (l : List Note) → P w l → Tells P (f a w l) (g a w))
      → Tells P (logged.then_do r f) (work.then_do s g)
  then_tells (ended a w l h) i = i a w l h
  then_tells (faulted x w l) i = faulted x w l
  then_tells unfinished i = unfinished

  pub choose_tells : {A : Type 0} (b : Bool) (m k : logged.Work A) (n o : work.Work A) (w : World) (l : List Note)
      → Tells P (m w l) (n w) → Tells P (k w l) (o w) → Tells P (logged.choose b m k w l) (work.choose b n o w)
  choose_tells true m k n o w l h i = h
  choose_tells false m k n o w l h i = i

  pub if_done_tells : {A : Type 0} (e : End) (a : A) (m : logged.Work A) (n : work.Work A) (w : World) (l : List Note)
      → P w l → Tells P (m w l) (n w) → Tells P (logged.if_done e a m w l) (work.if_done e a n w)
  if_done_tells Done a m n w l h i = i
  if_done_tells Cut a m n w l h i = ended a w l h

  pub if_some_tells : {A : Type 0} (o : Option ℕ) (m : logged.Work A) (n : work.Work A) (f : ℕ → logged.Work A)
      (g : ℕ → work.Work A) (w : World) (l : List Note) → Tells P (m w l) (n w)
      → ((x : ℕ) → Tells P (f x w l) (g x w)) → Tells P (logged.if_some o m f w l) (work.if_some o n g w)
  if_some_tells None m n f g w l h i = h
  if_some_tells (Some x) m n f g w l h i = i x

  flag_tells : (r : Result Bool Fault) (w : World) (l : List Note) → P w l
      → Tells P (logged.with_log (flag_or_fault r w) l) (flag_or_fault r w)
  flag_tells (Ok b) w l h = ended b w l h
  flag_tells (Err x) w l h = faulted x w l

module _ (c : Chart) (k : Counters) (b : Bounds) (P : World → List Note → Type 0) (ok : Sound c k b P) where
  guard_tells : (g : Option Expr) (w : World) (l : List Note) → P w l
      → Tells P (logged.with_log (searches.guard_holds g w) l) (searches.guard_holds g w)
  guard_tells None w l h = ended true w l h
  guard_tells (Some g) w l h = flag_tells P (truth_of g w) w l h

  module _ (p : noting.Parts) (q : parts.Parts) (u : Matches P p q) where
    alive_tells : (life : Life) (w : World) (l : List Note) → P w l
        → Tells P (noting.while_alive c.tree life w l) (searches.while_alive c.tree life w)
    alive_tells life w l h = search (choose_tells P, ended)

    statement_tells : (life : Life) (s : Stmt) (now : Now) (w : World) (l : List Note) → P w l
        → Tells P (noting.statement c k b p life s now w l) (searches.statement c b q life s now w)
    statement_tells life (Assign v e) now w l h = then_tells P (ok.assigns v e w l h) (λ _ w' l' h'. ended Done w' l' h')
    statement_tells life (Emit e) now w l h =
        then_tells P (ok.pays w l h) (λ _ w' l' h'. ended Done (emitted e w') l' (ok.emits e w' l' h'))
    statement_tells life (Send e) now w l h = search (then_tells P, alive_tells, u.send)
    statement_tells life (SendTo e s) now w l h = search (then_tells P, alive_tells, u.send)

    block_tells : (life : Life) (stmts : List Stmt) (now : Now) (w : World) (l : List Note) → P w l
        → Tells P (noting.block_rule c k b p life stmts now w l) (searches.block_rule c b q life stmts now w)
    block_tells life [] now w l h = ended Done w l h
    block_tells life (s ∷ rest) now w l h = search (then_tells P, if_done_tells P, statement_tells, u.block)

    send_tells : (e : ℕ) (to : Option ℕ) (now : Now) (w : World) (l : List Note) → P w l
        → Tells P (noting.send_rule c k b p e to now w l) (searches.send_rule c b q e to now w)
    send_tells e to now w l h =
        search (then_tells P, choose_tells P, ok.pays, ended, faulted, u.process) depth 9

    after_junction_tells : (life : Life) (action : List Stmt) (rest : List Trans) (now : Now) (f : Found) (w : World)
        (l : List Note) → P w l
        → Tells P (noting.after_junction c k b p life action rest now f w l)
        (searches.after_junction c b q life action rest now f w)
    after_junction_tells life action rest now (Fire d actions) w l h = ended _ w l h
    after_junction_tells life action rest now DeadEnd w l h = ended _ w l h
    after_junction_tells life action rest now No w l h = u.search life rest now w l h
    after_junction_tells life action rest now Stop w l h = ended _ w l h

    visit_tells : (life : Life) (action : List Stmt) (rest : List Trans) (now : Now) (ts : List Trans) (w : World)
        (l : List Note) → P w l
        → Tells P (noting.visit c k b p life action rest now ts w l) (searches.visit c b q life action rest now ts w)
    visit_tells life action rest now [] w l h = ended _ w l h
    visit_tells life action rest now (t ∷ ts) w l h = search (then_tells P, u.search, after_junction_tells)

    at_dest_tells : (life : Life) (action : List Stmt) (rest : List Trans) (now : Now) (d : Dest) (w : World)
        (l : List Note) → P w l
        → Tells P (noting.at_dest c k b p life action rest now d w l) (searches.at_dest c b q life action rest now d w)
    at_dest_tells life action rest now (State d) w l h = ended _ w l h
    at_dest_tells life action rest now (Junction j) w l h = search (then_tells P, ok.pays, visit_tells)

    after_condition_tells : (life : Life) (t : Trans) (rest : List Trans) (now : Now) (e : End) (w : World)
        (l : List Note) → P w l
        → Tells P (noting.after_condition c k b p life t rest now e w l) (searches.after_condition c b q life t rest now e w)
    after_condition_tells life t rest now Done w l h = at_dest_tells life t.action rest now t.dest w l h
    after_condition_tells life t rest now Cut w l h = ended _ w l h

    enabled_tells : (t : Trans) (now : Now) (w : World) (l : List Note) → P w l
        → Tells P (noting.is_enabled t now w l) (searches.is_enabled t now w)
    enabled_tells t now w l h = search (choose_tells P, guard_tells, ended)

    search_tells : (life : Life) (ts : List Trans) (now : Now) (w : World) (l : List Note) → P w l
        → Tells P (noting.search_rule c k b p life ts now w l) (searches.search_rule c b q life ts now w)
    search_tells life [] now w l h = ended _ w l h
    search_tells life (t ∷ ts) now w l h =
        then_tells P (enabled_tells t now w l h)
        (λ e w' l' h'. search (then_tells P, choose_tells P, u.block, u.search, after_condition_tells))

    exit_active_tells : (s : ℕ) (now : Now) (w : World) (l : List Note) → P w l
        → Tells P (noting.exit_active c k b p s now w l) (moves.exit_active c q s now w)
    exit_active_tells s now w l h = search (if_some_tells P, ended, u.exit)

    exit_children_tells : (s : ℕ) (now : Now) (o : Comp) (w : World) (l : List Note) → P w l
        → Tells P (noting.exit_children c k b p s now o w l) (moves.exit_children c q s now o w)
    exit_children_tells s now Leaf w l h = ended _ w l h
    exit_children_tells s now Or w l h = exit_active_tells s now w l h
    exit_children_tells s now And w l h = u.exit_each _ now w l h

    exit_tells : (s : ℕ) (now : Now) (w : World) (l : List Note) → P w l
        → Tells P (noting.exit_rule c k b p s now w l) (moves.exit_rule c q s now w)
    exit_tells s now w l h =
        search (then_tells P, choose_tells P, if_done_tells P, ended, u.block, exit_children_tells, ok.clears) depth 15

    exit_each_tells : (xs : List ℕ) (now : Now) (w : World) (l : List Note) → P w l
        → Tells P (noting.exit_each_rule c k b p xs now w l) (moves.exit_each_rule c q xs now w)
    exit_each_tells [] now w l h = ended _ w l h
    exit_each_tells (x ∷ xs) now w l h = search (then_tells P, u.exit, u.exit_each)

    toward_tells : (s d : ℕ) (now : Now) (w : World) (l : List Note) → P w l
        → Tells P (noting.enter_toward c k b p s d now w l) (moves.enter_toward c q s d now w)
    toward_tells s d now w l h = search (choose_tells P, if_some_tells P, ended, u.defaults, u.enter)

    inside_tells : (s d : ℕ) (now : Now) (o : Comp) (w : World) (l : List Note) → P w l
        → Tells P (noting.enter_inside c k b p s d now o w l) (moves.enter_inside c q s d now o w)
    inside_tells s d now Leaf w l h = ended _ w l h
    inside_tells s d now Or w l h = toward_tells s d now w l h
    inside_tells s d now And w l h = u.enter_each _ d now w l h

    enter_tells : (s d : ℕ) (now : Now) (w : World) (l : List Note) → P w l
        → Tells P (noting.enter_rule c k b p s d now w l) (counting_enter c k b q s d now w)
    enter_tells s d now w l h =
        choose_tells P (can_mark c.tree s w.marks) _ _ _ _ w l
        (then_tells P (ok.resets s (entered_in c s w) l (ok.marks s w l h)) (λ _ w' l' h'.
        then_tells P (u.block (Bare s) (node c s).entry now w' l' h') (λ e w'' l'' h''.
        if_done_tells P e tt _ _ w'' l'' h'' (inside_tells s d now (comp_of c.tree s) w'' l'' h'')))) (ended tt w l h)

    enter_each_tells : (xs : List ℕ) (d : ℕ) (now : Now) (w : World) (l : List Note) → P w l
        → Tells P (noting.enter_each_rule c k b p xs d now w l) (moves.enter_each_rule c q xs d now w)
    enter_each_tells [] d now w l h = ended _ w l h
    enter_each_tells (x ∷ xs) d now w l h = search (then_tells P, u.enter, u.enter_each)

    after_default_tells : (s : ℕ) (now : Now) (f : Found) (w : World) (l : List Note) → P w l
        → Tells P (noting.after_default c k b p s now f w l) (moves.after_default c q s now f w)
    after_default_tells s now (Fire d actions) w l h =
        search (then_tells P, if_done_tells P, if_some_tells P, ended, u.play, u.enter) depth 9
    after_default_tells s now DeadEnd w l h = ended _ w l h
    after_default_tells s now No w l h = ended _ w l h
    after_default_tells s now Stop w l h = ended _ w l h

    defaults_tells : (s : ℕ) (now : Now) (w : World) (l : List Note) → P w l
        → Tells P (noting.defaults_rule c k b p s now w l) (moves.defaults_rule c q s now w)
    defaults_tells s now w l h =
        search (if_some_tells P, then_tells P, u.search, u.enter, after_default_tells)

    play_tells : (s : ℕ) (actions : List (List Stmt)) (now : Now) (w : World) (l : List Note) → P w l
        → Tells P (noting.play_rule c k b p s actions now w l) (searches.play_rule c b q s actions now w)
    play_tells s [] now w l h = ended _ w l h
    play_tells s ([] ∷ actions) now w l h = u.play s actions now w l h
    play_tells s ((x ∷ xs) ∷ actions) now w l h =
        search (then_tells P, if_done_tells P, ok.pays, u.play, u.block) depth 9

    take_tells : (s d : ℕ) (actions : List (List Stmt)) (now : Now) (w : World) (l : List Note) → P w l
        → Tells P (noting.take_rule c k b p s d actions now w l) (moves.take_rule c q s d actions now w)
    take_tells s d actions now w l h =
        search (then_tells P, exit_active_tells, choose_tells P, if_done_tells P, ended, u.play, toward_tells) depth 15

    from_child_tells : (s : ℕ) (r : Went) (w : World) (l : List Note) → P w l
        → Tells P (noting.from_child s r w l) (processing.from_child s r w)
    from_child_tells s Stay w l h = ended _ w l h
    from_child_tells s (Out d) w l h = search (choose_tells P, ended)

    process_children_tells : (s : ℕ) (now : Now) (o : Comp) (w : World) (l : List Note) → P w l
        → Tells P (noting.process_children c k b p s now o w l) (processing.process_children c q s now o w)
    process_children_tells s now Leaf w l h = ended _ w l h
    process_children_tells s now Or w l h = search (then_tells P, if_some_tells P, ended, u.process, from_child_tells)
    process_children_tells s now And w l h = u.process_each _ now w l h

    after_inner_tells : (s : ℕ) (now : Now) (f : Found) (w : World) (l : List Note) → P w l
        → Tells P (noting.after_inner c k b p s now f w l) (processing.after_inner c q s now f w)
    after_inner_tells s now (Fire d actions) w l h = search (then_tells P, ended, u.take)
    after_inner_tells s now DeadEnd w l h = process_children_tells s now _ w l h
    after_inner_tells s now No w l h = process_children_tells s now _ w l h
    after_inner_tells s now Stop w l h = ended _ w l h

    counted_tells : (s : ℕ) (now : Now) (w : World) (l : List Note) → P w l
        → Tells P (of_root s (noting.count_noted k b now) logged.nothing w l)
        (of_root s (count b k.counted now) work.nothing w)
    counted_tells zero now w l h = ok.counts now w l h
    counted_tells (suc s) now w l h = ended tt w l h

    go_on_tells : (s : ℕ) (now : Now) (w : World) (l : List Note) → P w l
        → Tells P (noting.go_on_inside c k b p s now w l) (counting_inside c k b q s now w)
    go_on_tells s now w l h =
        then_tells P (u.block (On s) (node c s).during now w l h) (λ e w' l' h'.
        if_done_tells P e Stay _ _ w' l' h'
        (then_tells P (counted_tells s now w' l' h') (λ _ w'' l'' h''.
        then_tells P (u.search (On s) (node c s).inner now w'' l'' h'') (after_inner_tells s now))))

    after_outer_tells : (s : ℕ) (now : Now) (f : Found) (w : World) (l : List Note) → P w l
        → Tells P (noting.after_outer c k b p s now f w l) (counting_outer c k b q s now f w)
    after_outer_tells s now (Fire d actions) w l h = then_tells P (u.take _ d actions now w l h) (λ _ w' l' h'. ended _ w' l' h')
    after_outer_tells s now DeadEnd w l h = go_on_tells s now w l h
    after_outer_tells s now No w l h = go_on_tells s now w l h
    after_outer_tells s now Stop w l h = ended _ w l h

    process_tells : (s : ℕ) (now : Now) (w : World) (l : List Note) → P w l
        → Tells P (noting.process_rule c k b p s now w l) (counting_process c k b q s now w)
    process_tells s now w l h = then_tells P (u.search (On s) (node c s).outer now w l h) (after_outer_tells s now)

    after_region_tells : (xs : List ℕ) (now : Now) (r : Went) (w : World) (l : List Note) → P w l
        → Tells P (noting.after_region c k b p xs now r w l) (processing.after_region c q xs now r w)
    after_region_tells xs now Stay w l h = u.process_each xs now w l h
    after_region_tells xs now (Out s) w l h = ended _ w l h

    process_each_tells : (xs : List ℕ) (now : Now) (w : World) (l : List Note) → P w l
        → Tells P (noting.process_each_rule c k b p xs now w l) (processing.process_each_rule c q xs now w)
    process_each_tells [] now w l h = ended _ w l h
    process_each_tells (x ∷ xs) now w l h =
        search (then_tells P, choose_tells P, u.process, u.process_each, after_region_tells)

    rules_match : Matches P (noting.logged_rules c k b p) (counting_rules c k b q)
    rules_match = record {
      block = block_tells;
      send = send_tells;
      search = search_tells;
      exit = exit_tells;
      exit_each = exit_each_tells;
      enter = enter_tells;
      enter_each = enter_each_tells;
      defaults = defaults_tells;
      play = play_tells;
      take = take_tells;
      process = process_tells;
      process_each = process_each_tells;
    }

  pub logged_match : (n : ℕ) → Matches P (noting.logged_upto c k b n) (counting_upto c k b n)
  logged_match zero = record {
    block = λ _ _ _ _ _ _. unfinished;
    send = λ _ _ _ _ _ _. unfinished;
    search = λ _ _ _ _ _ _. unfinished;
    exit = λ _ _ _ _ _. unfinished;
    exit_each = λ _ _ _ _ _. unfinished;
    enter = λ _ _ _ _ _ _. unfinished;
    enter_each = λ _ _ _ _ _ _. unfinished;
    defaults = λ _ _ _ _ _. unfinished;
    play = λ _ _ _ _ _ _. unfinished;
    take = λ _ _ _ _ _ _ _. unfinished;
    process = λ _ _ _ _ _. unfinished;
    process_each = λ _ _ _ _ _. unfinished;
  }
  logged_match (suc n) = rules_match (noting.logged_upto c k b n) (counting_upto c k b n) (logged_match n)
