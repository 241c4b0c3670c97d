-- What lists of transitions find.
use Rattle.std.proofs.Common.{◌≡◌, ℕ, Bool, true, false, List, [], ◌∷◌, ◌++◌, Option, None}
use Rattle.std.proofs.Common.{◌≢◌, map, refl, sym, subst}
use Rattle.flow_base.specs.declared.bounds.Bounds.{Bounds}
use Rattle.actions.specs.declared.event.Event.{Event}
use Rattle.actions.specs.Exprs.{Expr, Stmt}
use Rattle.actions.specs.Work.{Run, Work, Ended, Faulted, Unfinished, then_do, ◌>>=◌, ◌>>◌, give, choose}
use Rattle.actions.specs.Work.{End, Done, Cut}
use Rattle.actions.specs.World as worlds
use Rattle.actions.specs.World.{World}
use Rattle.checked_chart.specs.declared.parts.Dest.{Dest}
use Rattle.checked_chart.specs.declared.parts.Dest.TheVariants.{State, Junction}
use Rattle.checked_chart.specs.Chart.{Trans, junction}
use Rattle.checked_chart.specs.Views.{block_seen}
use Rattle.sos_rules.specs.Parts.{Found, Fire, DeadEnd, No, Stop}
use Rattle.sos_rules.specs.Searches.{pay, is_enabled, event_fits, guard_holds, visit, at_dest, after_junction}
use Rattle.sos_rules.specs.Searches.{after_condition, search_rule}
use Rattle.range_blocks.specs.declared.blocks.Ran.{Ran}
use Rattle.range_blocks.specs.declared.searches.Firing.{Firing}
use Rattle.range_blocks.specs.declared.searches.Onward.{Onward}
use Rattle.range_blocks.specs.declared.searches.Searched.{Searched}
use Rattle.range_blocks.specs.Ends.{rules_in, ran_ends}
use Rattle.range_blocks.specs.Finds.{found_ends, Includes, put_first, visit_alone, to_dest}
use Rattle.range_blocks.specs.Finds.{Leaves, Passes}
use Rattle.range_blocks.proofs.Combining.{by_rule, leads_then, leads_after, leads_give}
use Rattle.range_blocks.proofs.FiringLemmas.{fired_last}
use Rattle.range_blocks.proofs.SendLemmas.{pay_leads}
use Rattle.range_rules.specs.declared.cert.Around.{Around}
use Rattle.range_rules.specs.Worlds.{EndsIn}
use Rattle.range_worlds.specs.declared.setting.Setting.{Setting}
use Rattle.range_worlds.specs.declared.steps.Guarded.{Guarded}
use Rattle.range_worlds.specs.Leads.{AreBelow, chart_in, cert_in, Among, Works, Leads, now_at}
use Rattle.range_worlds.specs.Steps.{guard_ends}
use Rattle.range_worlds.proofs.Leading.{no_world, leads_more}

module _ (s : Setting) where
  -- ---- transitions

  pub off_enabled : (t : Trans) (now : Event) (xs : List Around) (r : Guarded) → event_fits t.event now ≡ false
      → r.no.items ≡ xs
      → Leads s (Among s xs) (λ b n depth. is_enabled t (now_at now depth)) (guard_ends s r)
  off_enabled t now xs r e q = record {
    leads = λ b n depth w right h.
        subst (λ y. EndsIn (cert_in s) (guard_ends s r) (choose y (guard_holds t.guard) (give false) w)) (sym e)
        (subst (λ l. Among s l w) (sym q) h);
  }

  pub on_enabled : (t : Trans) (now : Event) (xs : List Around) (r : Guarded) → event_fits t.event now ≡ true
      → Leads s (Among s xs) (λ b n depth. guard_holds t.guard) (guard_ends s r)
      → Leads s (Among s xs) (λ b n depth. is_enabled t (now_at now depth)) (guard_ends s r)
  on_enabled t now xs r e l = record {
    leads = λ b n depth w right h.
        subst (λ y. EndsIn (cert_in s) (guard_ends s r) (choose y (guard_holds t.guard) (give false) w)) (sym e)
        (l.leads b n depth w right h);
  }

  pub no_guard : (xs : List Around) (g : Option Expr) (r : Guarded) → g ≡ None → r.yes.items ≡ xs
      → Leads s (Among s xs) (λ b n depth. guard_holds g) (guard_ends s r)
  no_guard xs g r e q = record {
    leads = λ b n depth w right h.
        subst (λ y. EndsIn (cert_in s) (guard_ends s r) (guard_holds y w)) (sym e)
        (subst (λ l. Among s l w) (sym q) h);
  }

  pub same_guard : (xs : List Around) (f g : Option Expr) (r : Guarded) → g ≡ f
      → Leads s (Among s xs) (λ b n depth. guard_holds f) (guard_ends s r)
      → Leads s (Among s xs) (λ b n depth. guard_holds g) (guard_ends s r)
  same_guard xs f g r e l = record {
    leads = λ b n depth w right h.
        subst (λ y. EndsIn (cert_in s) (guard_ends s r) (guard_holds y w)) (sym e) (l.leads b n depth w right h);
  }

  -- ---- lists

  -- no world at all
  pub none_lead : {A : Type 0} (xs : List Around) (work : Works A) (ends : A → World → Type 0) → xs ≡ []
      → Leads s (Among s xs) work ends
  none_lead xs work ends e = record {
    leads = λ b n depth w right h.
        absurd (no_world s w (subst (λ l. Among s l w) e h));
  }

  -- a list that is another
  pub search_same : (xs : List Around) (life : worlds.Life) (a b : List Trans) (now : Event) (r : Searched) → a ≡ b
      → Leads s (Among s xs) (λ m n depth. (rules_in s m n).search life b (now_at now depth)) (found_ends s r)
      → Leads s (Among s xs) (λ m n depth. (rules_in s m n).search life a (now_at now depth)) (found_ends s r)
  search_same xs life a b now r e l =
      subst (λ z. Leads s (Among s xs) (λ m n depth. (rules_in s m n).search life z (now_at now depth))
      (found_ends s r)) (sym e) l

  -- no transition
  pub no_search : (xs : List Around) (life : worlds.Life) (now : Event) (r : Searched) → r.no.items ≡ xs
      → Leads s (Among s xs) (λ b n depth. (rules_in s b n).search life [] (now_at now depth)) (found_ends s r)
  no_search xs life now r e =
      by_rule s (Among s xs) (λ b n depth. (rules_in s b n).search life [] (now_at now depth)) (λ b n depth. give No)
      (found_ends s r) (λ b depth w. refl) (λ b n depth w. refl)
      (leads_give s (found_ends s r) (Among s xs) No (λ w h. subst (λ l. Among s l w) (sym e) h))

  -- a destination
  pub fired_leads : (xs : List Around) (d : ℕ) (action : List Stmt) (x : Firing) (r : Searched)
      → r.fires.items ≡ [] ++ x ∷ [] → x.target ≡ d → x.worlds.items ≡ xs
      → map (λ a. block_seen a.now) x.actions.items ≡ action ∷ []
      → Leads s (Among s xs) (λ b n depth. give (Fire d (action ∷ []))) (found_ends s r)
  fired_leads xs d action x r e t v a =
      leads_give s (found_ends s r) (Among s xs) (Fire d (action ∷ []))
      (λ w h. fired_last s [] r.fires.items x e d (action ∷ []) w (record {
        target_is = t;
        actions_are = a;
        at = subst (λ l. Among s l w) (sym v) h;
      }))

  -- the list of a junction
  pub dead_visit : (xs : List Around) (life : worlds.Life) (action : List Stmt) (now : Event) (list : List Trans)
      (r : Searched) → list ≡ [] → r.dead.items ≡ xs
      → Leads s (Among s xs) (λ b n depth. visit_alone (rules_in s b n) life action (now_at now depth) list)
      (found_ends s r)
  dead_visit xs life action now list r e q = record {
    leads = λ b n depth w right h.
        subst (λ l. EndsIn (cert_in s) (found_ends s r)
        (visit_alone (rules_in s b n) life action (now_at now depth) l w)) (sym e) (subst (λ l. Among s l w) (sym q) h);
  }

  pub led_visit : (xs : List Around) (life : worlds.Life) (action : List Stmt) (now : Event) (list : List Trans)
      (found r : Searched) → list ≢ [] → Leaves s action found r
      → Leads s (Among s xs) (λ b n depth. (rules_in s b n).search life list (now_at now depth)) (found_ends s found)
      → Leads s (Among s xs) (λ b n depth. visit_alone (rules_in s b n) life action (now_at now depth) list)
      (found_ends s r)
  led_visit xs life action now [] found r not h l = absurd (not refl)
  led_visit xs life action now (t ∷ ts) found r not h l =
      leads_then s (Among s xs) (λ b n depth. (rules_in s b n).search life (t ∷ ts) (now_at now depth))
      (λ f b n depth. give (put_first action f)) (found_ends s found) (found_ends s r) l
      (λ f. leads_give s (found_ends s r) (found_ends s found f) (put_first action f) (λ w g. h.leaves f w g))

  -- where a transition leads
  pub state_reached : (xs : List Around) (life : worlds.Life) (action : List Stmt) (now : Event) (dest : Dest) (d : ℕ)
      (r : Searched) → dest ≡ State d
      → Leads s (Among s xs) (λ b n depth. give (Fire d (action ∷ []))) (found_ends s r)
      → Leads s (Among s xs)
      (λ b n depth. to_dest (chart_in s) b (rules_in s b n) life action (now_at now depth) dest) (found_ends s r)
  state_reached xs life action now dest d r e l = record {
    leads = λ b n depth w right h.
        subst (λ x. EndsIn (cert_in s) (found_ends s r)
        (to_dest (chart_in s) b (rules_in s b n) life action (now_at now depth) x w)) (sym e)
        (l.leads b n depth w right h);
  }

  pub junction_reached : (xs : List Around) (life : worlds.Life) (action : List Stmt) (now : Event) (dest : Dest)
      (j : ℕ) (list : List Trans) (r : Searched) → dest ≡ Junction j → list ≡ junction (chart_in s) j
      → Leads s (Among s xs) (λ b n depth. visit_alone (rules_in s b n) life action (now_at now depth) list)
      (found_ends s r)
      → Leads s (Among s xs)
      (λ b n depth. to_dest (chart_in s) b (rules_in s b n) life action (now_at now depth) dest) (found_ends s r)
  junction_reached xs life action now dest j list r e q l = record {
    leads = λ b n depth w right h.
        subst (λ x. EndsIn (cert_in s) (found_ends s r)
        (to_dest (chart_in s) b (rules_in s b n) life action (now_at now depth) x w)) (sym e)
        ((subst (λ x. Leads s (Among s xs) (λ b n depth. pay b >> visit_alone (rules_in s b n) life action
        (now_at now depth) x) (found_ends s r)) q paid).leads b n depth w right h);
  }
    where
      paid : Leads s (Among s xs)
          (λ b n depth. pay b >> visit_alone (rules_in s b n) life action (now_at now depth) list) (found_ends s r)
      paid =
          leads_after s (found_ends s r) (Among s xs) (λ b n depth. pay b)
          (λ b n depth. visit_alone (rules_in s b n) life action (now_at now depth) list) (λ _ w. Among s xs w)
          (pay_leads s xs) (λ _. l)

  -- ---- one transition, and then the others

  module _ (life : worlds.Life) (t : Trans) (rest : List Trans) (now : Event) (there others all : Searched)
      (passed : Onward) (off cut : List Around) (p : Passes s there off cut passed)
      (first : Includes s passed.found all) (second : Includes s others all)
      (later : Leads s (Among s passed.left.items)
      (λ b n depth. (rules_in s b n).search life rest (now_at now depth)) (found_ends s others)) where
    -- the rest of the list
    rest_leads : Leads s (Among s passed.left.items)
        (λ b n depth. (rules_in s b n).search life rest (now_at now depth)) (found_ends s all)
    rest_leads =
        leads_more s (λ b n depth. (rules_in s b n).search life rest (now_at now depth)) (Among s passed.left.items)
        (found_ends s others) (found_ends s all) (λ f w h. second.finds f w h) later

    -- work that goes on in two ways after the same beginning
    through : {A : Type 0} (r : Run A) (k m : A → Work Found)
        → ((a : A) (w : World) → EndsIn (cert_in s) (found_ends s there) (k a w)
        → EndsIn (cert_in s) (found_ends s all) (m a w))
        → EndsIn (cert_in s) (found_ends s there) (then_do r k) → EndsIn (cert_in s) (found_ends s all) (then_do r m)
    through (Ended a w) k m f h = f a w h
    through (Faulted x w) k m f h = h
    through Unfinished k m f h = h

    module _ (b : Bounds) (n depth : ℕ) (right : AreBelow s b n) where
      after_one : (f : Found) (w : World)
          → EndsIn (cert_in s) (found_ends s there) (give (put_first t.action f) w)
          → EndsIn (cert_in s) (found_ends s all)
          (after_junction (chart_in s) b (rules_in s b n) life t.action rest (now_at now depth) f w)
      after_one (Fire d actions) w h = first.finds (Fire d (t.action ∷ actions)) w (p.fires d (t.action ∷ actions) w h)
      after_one DeadEnd w h = first.finds DeadEnd w (p.dead w h)
      after_one No w h = rest_leads.leads b n depth w right (p.nothing w h)
      after_one Stop w h = first.finds Stop w (p.stop w h)

      after_list : (list : List Trans) (w : World)
          → EndsIn (cert_in s) (found_ends s there)
          (visit_alone (rules_in s b n) life t.action (now_at now depth) list w)
          → EndsIn (cert_in s) (found_ends s all)
          (visit (chart_in s) b (rules_in s b n) life t.action rest (now_at now depth) list w)
      after_list [] w h = first.finds DeadEnd w (p.dead w h)
      after_list (x ∷ xs) w h =
          through ((rules_in s b n).search life (x ∷ xs) (now_at now depth) w) (λ f. give (put_first t.action f))
          (after_junction (chart_in s) b (rules_in s b n) life t.action rest (now_at now depth)) after_one h

      after_dest : (dest : Dest) (w : World)
          → EndsIn (cert_in s) (found_ends s there)
          (to_dest (chart_in s) b (rules_in s b n) life t.action (now_at now depth) dest w)
          → EndsIn (cert_in s) (found_ends s all)
          (at_dest (chart_in s) b (rules_in s b n) life t.action rest (now_at now depth) dest w)
      after_dest (State d) w h = first.finds (Fire d (t.action ∷ [])) w (p.fires d (t.action ∷ []) w h)
      after_dest (Junction j) w h =
          through (pay b w)
          (λ _. visit_alone (rules_in s b n) life t.action (now_at now depth) (junction (chart_in s) j))
          (λ _. visit (chart_in s) b (rules_in s b n) life t.action rest (now_at now depth) (junction (chart_in s) j))
          (λ _ v g. after_list (junction (chart_in s) j) v g) h

    pub next_search : (xs : List Around) (g : Guarded) (r : Ran) → off ≡ g.no.items → cut ≡ r.cut.items
        → Leads s (Among s xs) (λ b n depth. is_enabled t (now_at now depth)) (guard_ends s g)
        → Leads s (Among s g.yes.items) (λ b n depth. (rules_in s b n).block life t.condition (now_at now depth))
        (ran_ends s r)
        → Leads s (Among s r.done.items)
        (λ b n depth. to_dest (chart_in s) b (rules_in s b n) life t.action (now_at now depth) t.dest)
        (found_ends s there)
        → Leads s (Among s xs) (λ b n depth. (rules_in s b n).search life (t ∷ rest) (now_at now depth))
        (found_ends s all)
    next_search xs g r o q e block dest =
        by_rule s (Among s xs) (λ b n depth. (rules_in s b n).search life (t ∷ rest) (now_at now depth))
        (λ b n depth. search_rule (chart_in s) b (rules_in s b n) life (t ∷ rest) (now_at now depth)) (found_ends s all)
        (λ b depth w. refl) (λ b n depth w. refl)
        (leads_then s (Among s xs) (λ b n depth. is_enabled t (now_at now depth))
        (λ y b n depth. choose y ((rules_in s b n).block life t.condition (now_at now depth)
        >>= after_condition (chart_in s) b (rules_in s b n) life t rest (now_at now depth))
        ((rules_in s b n).search life rest (now_at now depth))) (guard_ends s g) (found_ends s all) e both)
      where
        after : (end : End) → Leads s (ran_ends s r end)
            (λ b n depth. after_condition (chart_in s) b (rules_in s b n) life t rest (now_at now depth) end)
            (found_ends s all)
        after Done = record {
          leads = λ b n depth w right h.
              after_dest b n depth right t.dest w (dest.leads b n depth w right h);
        }
        after Cut = record {
          leads = λ b n depth w right h.
              first.finds Stop w (p.returned w (subst (λ l. Among s l w) (sym q) h));
        }

        both : (y : Bool) → Leads s (guard_ends s g y)
            (λ b n depth. choose y ((rules_in s b n).block life t.condition (now_at now depth)
            >>= after_condition (chart_in s) b (rules_in s b n) life t rest (now_at now depth))
            ((rules_in s b n).search life rest (now_at now depth))) (found_ends s all)
        both true =
            leads_then s (Among s g.yes.items)
            (λ b n depth. (rules_in s b n).block life t.condition (now_at now depth))
            (λ end b n depth. after_condition (chart_in s) b (rules_in s b n) life t rest (now_at now depth) end)
            (ran_ends s r) (found_ends s all) block after
        both false = record {
          leads = λ b n depth w right h.
              rest_leads.leads b n depth w right (p.disabled w (subst (λ l. Among s l w) (sym o) h));
        }
