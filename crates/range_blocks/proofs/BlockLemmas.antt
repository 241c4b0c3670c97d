-- Statements in order, and where they are cut.
use Rattle.std.proofs.Common.{◌≡◌, ℕ, zero, suc, List, [], ◌∷◌, Option, refl, sym}
use Rattle.std.proofs.Common.{subst}
use Rattle.flow_base.specs.declared.bounds.Bounds.{Bounds}
use Rattle.actions.specs.declared.event.Event.{Event}
use Rattle.actions.specs.Exprs.{Stmt}
use Rattle.actions.specs.Work.{◌>>=◌, ◌>>◌, give, change, End, Done, Cut, if_done}
use Rattle.actions.specs.World as worlds
use Rattle.actions.specs.World.{World, emitted, lives}
use Rattle.sos_rules.specs.Searches.{pay, while_alive, statement, block_rule, play_rule}
use Rattle.range_blocks.specs.Cells.{Sends}
use Rattle.range_blocks.specs.declared.blocks.Ran.{Ran}
use Rattle.range_blocks.specs.declared.life.Life.{Life}
use Rattle.range_blocks.specs.declared.life.Life.TheVariants as own
use Rattle.range_blocks.specs.Ends.{rules_in, life_of, test_of, ran_ends}
use Rattle.range_blocks.proofs.Combining.{below_lower, by_rule, leads_then, leads_after, leads_give, leads_split}
use Rattle.range_blocks.proofs.SendLemmas.{pay_leads}
use Rattle.range_rules.specs.declared.cert.Around.{Around}
use Rattle.range_worlds.specs.declared.configs.Test.{Test}
use Rattle.range_worlds.specs.declared.setting.Setting.{Setting}
use Rattle.range_rules.specs.Worlds.{EndsIn}
use Rattle.range_worlds.specs.Leads.{AreBelow, chart_in, cert_in, Among, Unites, Works, Leads, now_at}
use Rattle.range_worlds.specs.Splits.{passes, Splits}
use Rattle.range_worlds.proofs.Leading.{leads_more}

module _ (s : Setting) where
  -- a life is a test
  life_tested : (life : Life) (w : World)
      → lives (chart_in s).tree (life_of life) w.marks ≡ passes (chart_in s).tree (test_of life) w.marks
  life_tested (own.On x) w = refl
  life_tested (own.Bare x) w = refl

  -- after a send
  pub alive_leads : (life : Life) (test : Test) (xs : List Around) (r : Ran) → test ≡ test_of life
      → Splits s test xs r.done.items r.cut.items
      → Leads s (Among s xs) (λ b n depth. while_alive (chart_in s).tree (life_of life)) (ran_ends s r)
  alive_leads life test xs r e sp =
      leads_split s (ran_ends s r) (test_of life) (λ w. lives (chart_in s).tree (life_of life) w.marks) xs r.done.items
      r.cut.items (λ b n depth. give Done) (λ b n depth. give Cut) (life_tested life)
      (subst (λ t. Splits s t xs r.done.items r.cut.items) e sp)
      (leads_give s (ran_ends s r) (Among s r.done.items) Done (λ w h. h))
      (leads_give s (ran_ends s r) (Among s r.cut.items) Cut (λ w h. h))

  -- what is done where work has ended
  pub done_leads : (xs : List Around) (r : Ran) (work : Works (Unit {0})) (ys : List Around) → r.done.items ≡ ys
      → Leads s (Among s xs) work (λ _ w. Among s ys w)
      → Leads s (Among s xs) (λ b n depth. work b n depth >> give Done) (ran_ends s r)
  done_leads xs r work ys e l =
      leads_after s (ran_ends s r) (Among s xs) work (λ b n depth. give Done) (λ _ w. Among s ys w) l
      (λ _. leads_give s (ran_ends s r) (Among s ys) Done (λ w h. subst (λ zs. Among s zs w) (sym e) h))

  -- an event that is emitted leaves what is active and the data
  pub emit_leads : (xs : List Around) (e : ℕ)
      → Leads s (Among s xs) (λ b n depth. change (emitted e)) (λ _ w. Among s xs w)
  emit_leads xs e = record {
    leads = λ b n depth w right h. record {
      place = h.place;
      set = h.set;
      is = h.is;
      stands = record { config = h.stands.config; data_in = h.stands.data_in };
    };
  }

  pub emitted_leads : (xs : List Around) (r : Ran) (e : ℕ) → r.done.items ≡ xs
      → Leads s (Among s xs) (λ b n depth. pay b >> (change (emitted e) >> give Done)) (ran_ends s r)
  emitted_leads xs r e q =
      leads_after s (ran_ends s r) (Among s xs) (λ b n depth. pay b) (λ b n depth. change (emitted e) >> give Done)
      (λ _ w. Among s xs w) (pay_leads s xs)
      (λ _. done_leads xs r (λ b n depth. change (emitted e)) xs q (emit_leads xs e))

  -- the life is tested directly after a send
  pub sent_leads : (life : Life) (xs ys : List Around) (e : ℕ) (to : Option ℕ) (now : Event) (r : Ran)
      → Sends s xs e to ys
      → Leads s (Among s ys) (λ b n depth. while_alive (chart_in s).tree (life_of life)) (ran_ends s r)
      → Leads s (Among s xs) (λ b n depth. (rules_in s b n).send e to (now_at now depth)
      >> while_alive (chart_in s).tree (life_of life)) (ran_ends s r)
  sent_leads life xs ys e to now r h l =
      leads_after s (ran_ends s r) (Among s xs) (λ b n depth. (rules_in s b n).send e to (now_at now depth))
      (λ b n depth. while_alive (chart_in s).tree (life_of life)) (λ _ w. Among s ys w) (h.sends now) (λ _. l)

  -- a statement that is another
  pub statement_same : (xs : List Around) (life : worlds.Life) (a b : Stmt) (now : Event) (r : Ran) → a ≡ b
      → Leads s (Among s xs) (λ m n depth. statement (chart_in s) m (rules_in s m n) life b (now_at now depth))
      (ran_ends s r)
      → Leads s (Among s xs) (λ m n depth. statement (chart_in s) m (rules_in s m n) life a (now_at now depth))
      (ran_ends s r)
  statement_same xs life a b now r e l =
      subst (λ z. Leads s (Among s xs)
      (λ m n depth. statement (chart_in s) m (rules_in s m n) life z (now_at now depth)) (ran_ends s r)) (sym e) l

  pub block_same : (xs : List Around) (life : worlds.Life) (a b : List Stmt) (now : Event) (r : Ran) → a ≡ b
      → Leads s (Among s xs) (λ m n depth. (rules_in s m n).block life b (now_at now depth)) (ran_ends s r)
      → Leads s (Among s xs) (λ m n depth. (rules_in s m n).block life a (now_at now depth)) (ran_ends s r)
  block_same xs life a b now r e l =
      subst (λ z. Leads s (Among s xs) (λ m n depth. (rules_in s m n).block life z (now_at now depth)) (ran_ends s r))
      (sym e) l

  pub play_same : (xs : List Around) (home : ℕ) (a b : List (List Stmt)) (now : Event) (r : Ran) → a ≡ b
      → Leads s (Among s xs) (λ m n depth. (rules_in s m n).play home b (now_at now depth)) (ran_ends s r)
      → Leads s (Among s xs) (λ m n depth. (rules_in s m n).play home a (now_at now depth)) (ran_ends s r)
  play_same xs home a b now r e l =
      subst (λ z. Leads s (Among s xs) (λ m n depth. (rules_in s m n).play home z (now_at now depth)) (ran_ends s r))
      (sym e) l

  -- no statement
  pub no_block : (xs : List Around) (life : worlds.Life) (now : Event) (r : Ran) → r.done.items ≡ xs
      → Leads s (Among s xs) (λ b n depth. (rules_in s b n).block life [] (now_at now depth)) (ran_ends s r)
  no_block xs life now r e =
      by_rule s (Among s xs) (λ b n depth. (rules_in s b n).block life [] (now_at now depth))
      (λ b n depth. give Done) (ran_ends s r) (λ b depth w. refl) (λ b n depth w. refl)
      (leads_give s (ran_ends s r) (Among s xs) Done (λ w h. subst (λ zs. Among s zs w) (sym e) h))

  -- one statement, and then the others
  pub next_block : (xs : List Around) (life : worlds.Life) (stmt : Stmt) (rest : List Stmt) (now : Event)
      (first later all : Ran) → all.done.items ≡ later.done.items
      → Unites s later.cut.items first.cut.items all.cut.items
      → Leads s (Among s xs) (λ b n depth. statement (chart_in s) b (rules_in s b n) life stmt (now_at now depth))
      (ran_ends s first)
      → Leads s (Among s first.done.items) (λ b n depth. (rules_in s b n).block life rest (now_at now depth))
      (ran_ends s later)
      → Leads s (Among s xs) (λ b n depth. (rules_in s b n).block life (stmt ∷ rest) (now_at now depth))
      (ran_ends s all)
  next_block xs life stmt rest now first later all e u l k =
      by_rule s (Among s xs) (λ b n depth. (rules_in s b n).block life (stmt ∷ rest) (now_at now depth))
      (λ b n depth. block_rule (chart_in s) b (rules_in s b n) life (stmt ∷ rest) (now_at now depth)) (ran_ends s all)
      (λ b depth w. refl) (λ b n depth w. refl)
      (leads_then s (Among s xs)
      (λ b n depth. statement (chart_in s) b (rules_in s b n) life stmt (now_at now depth))
      (λ end b n depth. if_done end Cut ((rules_in s b n).block life rest (now_at now depth))) (ran_ends s first)
      (ran_ends s all) l after)
    where
      more : (a : End) (w : World) → ran_ends s later a w → ran_ends s all a w
      more Done w h = subst (λ zs. Among s zs w) (sym e) h
      more Cut w h = u.left w h

      after : (end : End) → Leads s (ran_ends s first end)
          (λ b n depth. if_done end Cut ((rules_in s b n).block life rest (now_at now depth))) (ran_ends s all)
      after Done =
          leads_more s (λ b n depth. (rules_in s b n).block life rest (now_at now depth)) (Among s first.done.items)
          (ran_ends s later) (ran_ends s all) more k
      after Cut = leads_give s (ran_ends s all) (Among s first.cut.items) Cut (λ w h. u.right w h)

  -- no action of a firing
  pub no_play : (xs : List Around) (home : ℕ) (now : Event) (r : Ran) → r.done.items ≡ xs
      → Leads s (Among s xs) (λ b n depth. (rules_in s b n).play home [] (now_at now depth)) (ran_ends s r)
  no_play xs home now r e =
      by_rule s (Among s xs) (λ b n depth. (rules_in s b n).play home [] (now_at now depth)) (λ b n depth. give Done)
      (ran_ends s r) (λ b depth w. refl) (λ b n depth w. refl)
      (leads_give s (ran_ends s r) (Among s xs) Done (λ w h. subst (λ zs. Among s zs w) (sym e) h))

  -- one action, and then the others
  pub next_play : (xs : List Around) (home : ℕ) (action : List Stmt) (rest : List (List Stmt)) (now : Event)
      (first later all : Ran) → all.done.items ≡ later.done.items
      → Unites s later.cut.items first.cut.items all.cut.items
      → Leads s (Among s xs) (λ b n depth. (rules_in s b n).block (worlds.Bare home) action (now_at now depth))
      (ran_ends s first)
      → Leads s (Among s first.done.items) (λ b n depth. (rules_in s b n).play home rest (now_at now depth))
      (ran_ends s later)
      → Leads s (Among s xs) (λ b n depth. (rules_in s b n).play home (action ∷ rest) (now_at now depth))
      (ran_ends s all)
  next_play xs home action rest now first later all e u l k = at action l
    where
      more : (a : End) (w : World) → ran_ends s later a w → ran_ends s all a w
      more Done w h = subst (λ zs. Among s zs w) (sym e) h
      more Cut w h = u.left w h

      after : (end : End) → Leads s (ran_ends s first end)
          (λ b n depth. if_done end Cut ((rules_in s b n).play home rest (now_at now depth))) (ran_ends s all)
      after Done =
          leads_more s (λ b n depth. (rules_in s b n).play home rest (now_at now depth)) (Among s first.done.items)
          (ran_ends s later) (ran_ends s all) more k
      after Cut = leads_give s (ran_ends s all) (Among s first.cut.items) Cut (λ w h. u.right w h)

      none : Leads s (Among s xs) (λ b n depth. (rules_in s b n).block (worlds.Bare home) [] (now_at now depth))
          (ran_ends s first) → (b : Bounds) (n depth : ℕ) (w : World) → AreBelow s b n → Among s xs w
          → EndsIn (cert_in s) (ran_ends s all) ((rules_in s b n).play home ([] ∷ rest) (now_at now depth) w)
      none m b zero depth w right h = tt
      none m b (suc n) depth w right h =
          (after Done).leads b n depth w (below_lower s b n right) (m.leads b (suc n) depth w right h)

      at : (acts : List Stmt)
          → Leads s (Among s xs) (λ b n depth. (rules_in s b n).block (worlds.Bare home) acts (now_at now depth))
          (ran_ends s first)
          → Leads s (Among s xs) (λ b n depth. (rules_in s b n).play home (acts ∷ rest) (now_at now depth))
          (ran_ends s all)
      at [] m = record { leads = none m }
      at (x ∷ more_stmts) m =
          by_rule s (Among s xs) (λ b n depth. (rules_in s b n).play home ((x ∷ more_stmts) ∷ rest) (now_at now depth))
          (λ b n depth. play_rule (chart_in s) b (rules_in s b n) home ((x ∷ more_stmts) ∷ rest) (now_at now depth))
          (ran_ends s all) (λ b depth w. refl) (λ b n depth w. refl)
          (leads_after s (ran_ends s all) (Among s xs) (λ b n depth. pay b)
          (λ b n depth. (rules_in s b n).block (worlds.Bare home) (x ∷ more_stmts) (now_at now depth)
          >>= (λ end. if_done end Cut ((rules_in s b n).play home rest (now_at now depth)))) (λ _ w. Among s xs w)
          (pay_leads s xs)
          (λ _. leads_then s (Among s xs)
          (λ b n depth. (rules_in s b n).block (worlds.Bare home) (x ∷ more_stmts) (now_at now depth))
          (λ end b n depth. if_done end Cut ((rules_in s b n).play home rest (now_at now depth))) (ran_ends s first)
          (ran_ends s all) m after))
