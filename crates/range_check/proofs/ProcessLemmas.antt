-- Processing active states.
use Rattle.std.proofs.Common.{◌≡◌, ◌==◌, ◌⊎◌, inl, inr, ℕ, Bool, true, false, List, [], ◌∷◌, ◌++◌, Some, refl, sym}
use Rattle.std.proofs.Common.{subst, ◌∙◌, map, cond, if◌then◌else◌}
use Rattle.std.specs.List.{find}
use Rattle.flow_base.specs.declared.bounds.Bounds.{Bounds}
use Rattle.active_config.specs.declared.comp.Comp.{Comp}
use Rattle.active_config.specs.declared.comp.Comp.TheVariants.{Leaf, Or, And}
use Rattle.active_config.specs.Marks.{is_on, active_child}
use Rattle.active_config.specs.Tree.{comp_of, children_of}
use Rattle.actions.specs.declared.event.Event.{Event}
use Rattle.actions.specs.Exprs.{Stmt}
use Rattle.actions.specs.Work.{◌>>=◌, give, choose, End, Done, Cut, if_done, if_some}
use Rattle.actions.specs.World as worlds
use Rattle.actions.specs.World.{World}
use Rattle.checked_chart.specs.declared.parts.ListKind.TheVariants.{Outer}
use Rattle.checked_chart.specs.Chart.{Trans, node}
use Rattle.checked_chart.specs.Homes.{home_of}
use Rattle.checked_chart.specs.Views.{block_seen}
use Rattle.sos_rules.specs.Parts.{Found, Fire, DeadEnd, No, Stop, Went, Stay, Out}
use Rattle.sos_rules.specs.Processing.{from_child, process_children, after_inner, go_on_inside, after_outer, process_rule}
use Rattle.sos_rules.specs.Processing.{after_region, process_each_rule}
use Rattle.range_blocks.specs.declared.blocks.Ran.{Ran}
use Rattle.range_blocks.specs.declared.searches.Firing.{Firing}
use Rattle.range_blocks.specs.declared.searches.Searched.{Searched}
use Rattle.range_blocks.specs.Ends.{rules_in, ran_ends}
use Rattle.range_blocks.specs.Finds.{IsFired, found_ends}
use Rattle.range_blocks.proofs.Combining.{by_rule, leads_then, leads_after, leads_give, leads_split, leads_either}
use Rattle.range_blocks.proofs.FiringLemmas.{IsOf, no_firing, fired_popped}
use Rattle.range_check.specs.declared.processing.Processed.{Processed}
use Rattle.range_check.specs.declared.processing.Way.{Way}
use Rattle.range_check.specs.Went.{IsOut, went_ends, Includes, PutsTogether, FromChild, TakesInner, TakesOuter, at_or}
use Rattle.range_check.specs.Went.{process_found}
use Rattle.range_check.proofs.WayLemmas.{out_front, out_last}
use Rattle.range_rules.specs.declared.cert.Around.{Around}
use Rattle.range_rules.specs.Worlds.{EndsIn}
use Rattle.range_worlds.specs.declared.configs.Test.TheVariants.{On}
use Rattle.range_worlds.specs.declared.setting.Setting.{Setting}
use Rattle.range_worlds.specs.Leads.{AreBelow, chart_in, cert_in, Among, Unites, Works, Leads, now_at}
use Rattle.range_worlds.specs.Splits.{Splits}
use Rattle.range_worlds.proofs.Leading.{leads_more}

module _ (s : Setting) where
  -- processing that stays
  stay_leads : (from : World → Type 0) (r : Processed) → ((w : World) → from w → Among s r.stay.items w)
      → Leads s from (λ b n depth. give Stay) (went_ends s r)
  stay_leads from r h = leads_give s (went_ends s r) from Stay h

  included : (from : World → Type 0) (work : Works Went) (a r : Processed) → Includes s a r
      → Leads s from work (went_ends s a) → Leads s from work (went_ends s r)
  included from work a r i l = leads_more s work from (went_ends s a) (went_ends s r) (λ went w h. i.ends went w h) l

  -- ---- firings

  -- work with each firing of a list, by that with the last one and that with those before it
  fires_lead : {A : Type 0} (fires rest : List Firing) (x : Firing) (one : ℕ → List (List Stmt) → Works A)
      (ends : ℕ → A → World → Type 0) → fires ≡ rest ++ x ∷ []
      → ((d : ℕ) (actions : List (List Stmt)) → Leads s (IsFired s rest d actions) (one d actions) (ends d))
      → Leads s (Among s x.worlds.items) (one x.target (map (λ a. block_seen a.now) x.actions.items)) (ends x.target)
      → (d : ℕ) (actions : List (List Stmt)) → Leads s (IsFired s fires d actions) (one d actions) (ends d)
  fires_lead fires rest x one ends e before last d actions =
      leads_either s (ends d) (IsFired s fires d actions) (IsFired s rest d actions) (IsOf s x d actions) (one d actions)
      (fired_popped s rest fires x e d actions) (before d actions) (record {
        leads = λ b n depth w right h.
            subst (λ z. EndsIn (cert_in s) (ends d) (one d z b n depth w)) h.actions_are
            (subst (λ z. EndsIn (cert_in s) (ends z)
            (one z (map (λ a. block_seen a.now) x.actions.items) b n depth w)) h.target_is
            (last.leads b n depth w right h.at));
      })

  abbrev inner : ℕ → Event → ℕ → List (List Stmt) → Works (Unit {0})
  inner state now d actions b n depth = (rules_in s b n).take state d actions (now_at now depth)

  abbrev outer : ℕ → Event → ℕ → List (List Stmt) → Works (Unit {0})
  outer state now d actions b n depth =
      (rules_in s b n).take (home_of (chart_in s).tree state Outer d) d actions (now_at now depth)

  pub no_inner : (fires : List Firing) (state : ℕ) (now : Event) (ys : List Around) → fires ≡ []
      → TakesInner s fires state now ys
  no_inner fires state now ys e = record {
    takes = λ d actions. record {
      leads = λ b n depth w right h. absurd (no_firing s d actions w (subst (λ l. IsFired s l d actions w) e h));
    };
  }

  pub next_inner : (fires rest : List Firing) (x : Firing) (state : ℕ) (now : Event) (own others all : List Around)
      → fires ≡ rest ++ x ∷ []
      → Leads s (Among s x.worlds.items)
      (λ b n depth. (rules_in s b n).take state x.target (map (λ a. block_seen a.now) x.actions.items)
      (now_at now depth)) (λ _ w. Among s own w) → TakesInner s rest state now others → Unites s own others all
      → TakesInner s fires state now all
  next_inner fires rest x state now own others all e l t u = record {
    takes = fires_lead fires rest x (inner state now) (λ _ _ w. Among s all w) e
        (λ d actions. leads_more s (inner state now d actions) (IsFired s rest d actions) (λ _ w. Among s others w)
        (λ _ w. Among s all w) (λ _ w h. u.right w h) (t.takes d actions))
        (leads_more s (inner state now x.target (map (λ a. block_seen a.now) x.actions.items))
        (Among s x.worlds.items) (λ _ w. Among s own w) (λ _ w. Among s all w) (λ _ w h. u.left w h) l);
  }

  pub no_outer : (fires : List Firing) (state : ℕ) (now : Event) (ways : List Way) → fires ≡ []
      → TakesOuter s fires state now ways
  no_outer fires state now ways e = record {
    takes = λ d actions. record {
      leads = λ b n depth w right h. absurd (no_firing s d actions w (subst (λ l. IsFired s l d actions w) e h));
    };
  }

  pub next_outer : (fires rest : List Firing) (x : Firing) (state home : ℕ) (now : Event) (others all : List Way)
      (y : Way) → fires ≡ rest ++ x ∷ [] → home ≡ home_of (chart_in s).tree state Outer x.target → y.home ≡ home
      → Leads s (Among s x.worlds.items)
      (λ b n depth. (rules_in s b n).take home x.target (map (λ a. block_seen a.now) x.actions.items)
      (now_at now depth)) (λ _ w. Among s y.worlds.items w) → TakesOuter s rest state now others
      → all ≡ others ++ y ∷ [] → TakesOuter s fires state now all
  next_outer fires rest x state home now others all y e q p l t u = record {
    takes = fires_lead fires rest x (outer state now)
        (λ d _ w. IsOut s all (home_of (chart_in s).tree state Outer d) w) e
        (λ d actions. leads_more s (outer state now d actions) (IsFired s rest d actions)
        (λ _ w. IsOut s others (home_of (chart_in s).tree state Outer d) w)
        (λ _ w. IsOut s all (home_of (chart_in s).tree state Outer d) w)
        (λ _ w h. out_front s others all y u (home_of (chart_in s).tree state Outer d) w h) (t.takes d actions))
        (leads_more s (outer state now x.target (map (λ a. block_seen a.now) x.actions.items)) (Among s x.worlds.items)
        (λ _ w. Among s y.worlds.items w) (λ _ w. IsOut s all (home_of (chart_in s).tree state Outer x.target) w)
        (λ _ w h. out_last s others all y u (home_of (chart_in s).tree state Outer x.target) w (p ∙ q) h)
        (subst (λ z. Leads s (Among s x.worlds.items)
        (λ b n depth. (rules_in s b n).take z x.target (map (λ a. block_seen a.now) x.actions.items)
        (now_at now depth)) (λ _ w. Among s y.worlds.items w)) q l));
  }

  -- ---- an active state

  pub process_leads : (state : ℕ) (now : Event) (list : List Trans) (xs left : List Around) (r : Searched)
      (own below all : Processed) → list ≡ (node (chart_in s) state).outer
      → Leads s (Among s xs) (λ b n depth. (rules_in s b n).search (worlds.On state) list (now_at now depth))
      (found_ends s r) → TakesOuter s r.fires.items state now own.outs.items → own.stay.items ≡ r.stop.items
      → Unites s r.dead.items r.no.items left
      → Leads s (Among s left) (λ b n depth. go_on_inside (chart_in s) (rules_in s b n) state (now_at now depth))
      (went_ends s below) → Includes s own all → Includes s below all
      → Leads s (Among s xs) (λ b n depth. (rules_in s b n).process state (now_at now depth)) (went_ends s all)
  process_leads state now list xs left r own below all e search takes stop u inside i j =
      by_rule s (Among s xs) (λ b n depth. (rules_in s b n).process state (now_at now depth))
      (λ b n depth. process_rule (chart_in s) (rules_in s b n) state (now_at now depth)) (went_ends s all)
      (λ b depth w. refl) (λ b n depth w. refl)
      (leads_then s (Among s xs)
      (λ b n depth. (rules_in s b n).search (worlds.On state) (node (chart_in s) state).outer (now_at now depth))
      (λ f b n depth. after_outer (chart_in s) (rules_in s b n) state (now_at now depth) f) (found_ends s r)
      (went_ends s all)
      (subst (λ z. Leads s (Among s xs)
      (λ b n depth. (rules_in s b n).search (worlds.On state) z (now_at now depth)) (found_ends s r)) e search) after)
    where
      inside_all : (from : World → Type 0) → ((w : World) → from w → Among s left w)
          → Leads s from (λ b n depth. go_on_inside (chart_in s) (rules_in s b n) state (now_at now depth))
          (went_ends s all)
      inside_all from h = record {
        leads = λ b n depth w right g.
            (included (Among s left)
            (λ b n depth. go_on_inside (chart_in s) (rules_in s b n) state (now_at now depth)) below all j
            inside).leads b n depth w right (h w g);
      }

      after : (f : Found) → Leads s (found_ends s r f)
          (λ b n depth. after_outer (chart_in s) (rules_in s b n) state (now_at now depth) f) (went_ends s all)
      after (Fire d actions) =
          leads_after s (went_ends s all) (IsFired s r.fires.items d actions) (outer state now d actions)
          (λ b n depth. give (Out (home_of (chart_in s).tree state Outer d)))
          (λ _ w. IsOut s own.outs.items (home_of (chart_in s).tree state Outer d) w) (takes.takes d actions)
          (λ _. leads_give s (went_ends s all)
          (λ w. IsOut s own.outs.items (home_of (chart_in s).tree state Outer d) w)
          (Out (home_of (chart_in s).tree state Outer d))
          (λ w h. i.ends (Out (home_of (chart_in s).tree state Outer d)) w h))
      after DeadEnd = inside_all (Among s r.dead.items) (λ w h. u.left w h)
      after No = inside_all (Among s r.no.items) (λ w h. u.right w h)
      after Stop =
          stay_leads (Among s r.stop.items) all
          (λ w h. i.ends Stay w (subst (λ l. Among s l w) (sym stop) h))

  -- ---- inside an active state

  abbrev within : ℕ → Event → Works Went
  within state now b n depth =
      (rules_in s b n).search (worlds.On state) (node (chart_in s) state).inner (now_at now depth)
      >>= after_inner (chart_in s) (rules_in s b n) state (now_at now depth)

  pub inside_leads : (state : ℕ) (now : Event) (action : List Stmt) (list : List Trans)
      (xs taken left early own : List Around) (ran : Ran) (r : Searched) (kept below all : Processed)
      → action ≡ (node (chart_in s) state).during → list ≡ (node (chart_in s) state).inner
      → Leads s (Among s xs) (λ b n depth. (rules_in s b n).block (worlds.On state) action (now_at now depth))
      (ran_ends s ran)
      → Leads s (Among s ran.done.items)
      (λ b n depth. (rules_in s b n).search (worlds.On state) list (now_at now depth)) (found_ends s r)
      → TakesInner s r.fires.items state now taken → Unites s r.dead.items r.no.items left
      → Leads s (Among s left) (λ b n depth. process_children (chart_in s) (rules_in s b n) state (now_at now depth)
      (comp_of (chart_in s).tree state)) (went_ends s below)
      → Unites s ran.cut.items r.stop.items early → Unites s taken early own → kept.stay.items ≡ own
      → Includes s kept all → Includes s below all
      → Leads s (Among s xs) (λ b n depth. go_on_inside (chart_in s) (rules_in s b n) state (now_at now depth))
      (went_ends s all)
  inside_leads state now action list xs taken left early own ran r kept below all e f block search takes u children v t
      k i j =
      leads_then s (Among s xs)
      (λ b n depth. (rules_in s b n).block (worlds.On state) (node (chart_in s) state).during (now_at now depth))
      (λ end b n depth. if_done end Stay (within state now b n depth)) (ran_ends s ran) (went_ends s all)
      (subst (λ z. Leads s (Among s xs)
      (λ b n depth. (rules_in s b n).block (worlds.On state) z (now_at now depth)) (ran_ends s ran)) e block) after_block
    where
      stays : (w : World) → Among s own w → Among s all.stay.items w
      stays w h = i.ends Stay w (subst (λ l. Among s l w) (sym k) h)

      children_all : (from : World → Type 0) → ((w : World) → from w → Among s left w)
          → Leads s from (λ b n depth. process_children (chart_in s) (rules_in s b n) state (now_at now depth)
          (comp_of (chart_in s).tree state)) (went_ends s all)
      children_all from h = record {
        leads = λ b n depth w right g.
            (included (Among s left) (λ b n depth. process_children (chart_in s) (rules_in s b n) state
            (now_at now depth) (comp_of (chart_in s).tree state)) below all j children).leads b n depth w right (h w g);
      }

      after : (g : Found) → Leads s (found_ends s r g)
          (λ b n depth. after_inner (chart_in s) (rules_in s b n) state (now_at now depth) g) (went_ends s all)
      after (Fire d actions) =
          leads_after s (went_ends s all) (IsFired s r.fires.items d actions) (inner state now d actions)
          (λ b n depth. give Stay) (λ _ w. Among s taken w) (takes.takes d actions)
          (λ _. stay_leads (Among s taken) all (λ w h. stays w (t.left w h)))
      after DeadEnd = children_all (Among s r.dead.items) (λ w h. u.left w h)
      after No = children_all (Among s r.no.items) (λ w h. u.right w h)
      after Stop = stay_leads (Among s r.stop.items) all (λ w h. stays w (t.right w (v.right w h)))

      after_block : (end : End) → Leads s (ran_ends s ran end) (λ b n depth. if_done end Stay (within state now b n depth))
          (went_ends s all)
      after_block Done =
          leads_then s (Among s ran.done.items)
          (λ b n depth. (rules_in s b n).search (worlds.On state) (node (chart_in s) state).inner (now_at now depth))
          (λ g b n depth. after_inner (chart_in s) (rules_in s b n) state (now_at now depth) g) (found_ends s r)
          (went_ends s all)
          (subst (λ z. Leads s (Among s ran.done.items)
          (λ b n depth. (rules_in s b n).search (worlds.On state) z (now_at now depth)) (found_ends s r)) f search) after
      after_block Cut = stay_leads (Among s ran.cut.items) all (λ w h. stays w (t.right w (v.left w h)))

  -- ---- children

  children_same : (state : ℕ) (now : Event) (xs : List Around) (r : Processed) (k m : Comp) → k ≡ m
      → Leads s (Among s xs) (λ b n depth. process_children (chart_in s) (rules_in s b n) state (now_at now depth) k)
      (went_ends s r)
      → Leads s (Among s xs) (λ b n depth. process_children (chart_in s) (rules_in s b n) state (now_at now depth) m)
      (went_ends s r)
  children_same state now xs r k m e l =
      subst (λ z. Leads s (Among s xs)
      (λ b n depth. process_children (chart_in s) (rules_in s b n) state (now_at now depth) z) (went_ends s r)) e l

  pub leaf_processed : (state : ℕ) (now : Event) (xs : List Around) (r : Processed)
      → Leaf ≡ comp_of (chart_in s).tree state → r.stay.items ≡ xs
      → Leads s (Among s xs) (λ b n depth. process_children (chart_in s) (rules_in s b n) state (now_at now depth)
      (comp_of (chart_in s).tree state)) (went_ends s r)
  leaf_processed state now xs r e q =
      children_same state now xs r Leaf (comp_of (chart_in s).tree state) e
      (stay_leads (Among s xs) r (λ w h. subst (λ l. Among s l w) (sym q) h))

  pub or_processed : (state : ℕ) (now : Event) (xs : List Around) (r : Processed) (inner : List ℕ)
      → Or ≡ comp_of (chart_in s).tree state → inner ≡ children_of (chart_in s).tree state
      → Leads s (Among s xs) (λ b n depth. process_found (rules_in s b n) state inner (now_at now depth))
      (went_ends s r)
      → Leads s (Among s xs) (λ b n depth. process_children (chart_in s) (rules_in s b n) state (now_at now depth)
      (comp_of (chart_in s).tree state)) (went_ends s r)
  unfolding active_child
  or_processed state now xs r inner e q l =
      children_same state now xs r Or (comp_of (chart_in s).tree state) e
      (subst (λ z. Leads s (Among s xs) (λ b n depth. process_found (rules_in s b n) state z (now_at now depth))
      (went_ends s r)) q l)

  pub and_processed : (state : ℕ) (now : Event) (xs : List Around) (r : Processed) (regions : List ℕ)
      → And ≡ comp_of (chart_in s).tree state → regions ≡ children_of (chart_in s).tree state
      → Leads s (Among s xs) (λ b n depth. (rules_in s b n).process_each regions (now_at now depth)) (went_ends s r)
      → Leads s (Among s xs) (λ b n depth. process_children (chart_in s) (rules_in s b n) state (now_at now depth)
      (comp_of (chart_in s).tree state)) (went_ends s r)
  and_processed state now xs r regions e q l =
      children_same state now xs r And (comp_of (chart_in s).tree state) e
      (subst (λ z. Leads s (Among s xs) (λ b n depth. (rules_in s b n).process_each z (now_at now depth))
      (went_ends s r)) q l)

  -- an OR after its child
  from_child_at : (state : ℕ) (r : Processed) (h : ℕ) (w : World) (b : Bool)
      → went_ends s r (if b then Stay else Out h) w
      → EndsIn (cert_in s) (went_ends s r) (choose b (give Stay) (give (Out h)) w)
  from_child_at state r h w true o = o
  from_child_at state r h w false o = o

  from_child_ends : (state : ℕ) (r : Processed) (a : Went) (w : World) → went_ends s r (at_or state a) w
      → EndsIn (cert_in s) (went_ends s r) (from_child state a w)
  from_child_ends state r Stay w o = o
  from_child_ends state r (Out h) w o = from_child_at state r h w (h == state) o

  child_leads : (state x : ℕ) (now : Event) (xs : List Around) (inner r all : Processed) → FromChild s state inner r
      → Includes s r all
      → Leads s (Among s xs) (λ b n depth. (rules_in s b n).process x (now_at now depth)) (went_ends s inner)
      → Leads s (Among s xs) (λ b n depth. (rules_in s b n).process x (now_at now depth) >>= from_child state)
      (went_ends s all)
  child_leads state x now xs inner r all f i l =
      leads_then s (Among s xs) (λ b n depth. (rules_in s b n).process x (now_at now depth))
      (λ a b n depth. from_child state a) (went_ends s inner) (went_ends s all) l
      (λ a. record {
        leads = λ b n depth w right h.
            from_child_ends state all a w (i.ends (at_or state a) w (f.from a w h));
      })

  pub none_processed : (state : ℕ) (states : List ℕ) (now : Event) (xs : List Around) (r : Processed) → states ≡ []
      → r.stay.items ≡ xs
      → Leads s (Among s xs) (λ b n depth. process_found (rules_in s b n) state states (now_at now depth))
      (went_ends s r)
  none_processed state states now xs r e q =
      subst (λ z. Leads s (Among s xs) (λ b n depth. process_found (rules_in s b n) state z (now_at now depth))
      (went_ends s r)) (sym e) (stay_leads (Among s xs) r (λ w h. subst (λ l. Among s l w) (sym q) h))

  pub first_processed : (state : ℕ) (states rest : List ℕ) (x : ℕ) (now : Event) (xs pass fail : List Around)
      (inner own others all : Processed) → states ≡ x ∷ rest → Splits s (On x) xs pass fail
      → Leads s (Among s pass) (λ b n depth. (rules_in s b n).process x (now_at now depth)) (went_ends s inner)
      → FromChild s state inner own
      → Leads s (Among s fail) (λ b n depth. process_found (rules_in s b n) state rest (now_at now depth))
      (went_ends s others) → Includes s own all → Includes s others all
      → Leads s (Among s xs) (λ b n depth. process_found (rules_in s b n) state states (now_at now depth))
      (went_ends s all)
  first_processed state states rest x now xs pass fail inner own others all e sp l f k i j =
      subst (λ z. Leads s (Among s xs) (λ b n depth. process_found (rules_in s b n) state z (now_at now depth))
      (went_ends s all)) (sym e) (record { leads = λ b n depth w right h. at b n depth w right (sp.split w h) })
    where
      by : (b : Bounds) (n depth : ℕ) (w : World) (y z : Bool) → y ≡ z
          → EndsIn (cert_in s) (went_ends s all)
          (if_some (cond z (Some x) (find (λ y. is_on y w.marks) rest)) (give Stay)
          (λ y. (rules_in s b n).process y (now_at now depth) >>= from_child state) w)
          → EndsIn (cert_in s) (went_ends s all)
          (if_some (cond y (Some x) (find (λ y. is_on y w.marks) rest)) (give Stay)
          (λ y. (rules_in s b n).process y (now_at now depth) >>= from_child state) w)
      by b n depth w y z q h = subst (λ o. EndsIn (cert_in s) (went_ends s all)
          (if_some (cond o (Some x) (find (λ y. is_on y w.marks) rest)) (give Stay)
          (λ y. (rules_in s b n).process y (now_at now depth) >>= from_child state) w)) (sym q) h

      at : (b : Bounds) (n depth : ℕ) (w : World) → AreBelow s b n
          → ((is_on x w.marks ≡ true) × Among s pass w) ⊎ ((is_on x w.marks ≡ false) × Among s fail w)
          → EndsIn (cert_in s) (went_ends s all)
          (process_found (rules_in s b n) state (x ∷ rest) (now_at now depth) w)
      at b n depth w right (inl h) =
          by b n depth w (is_on x w.marks) true h.0
          ((child_leads state x now pass inner own all f i l).leads b n depth w right h.1)
      at b n depth w right (inr h) =
          by b n depth w (is_on x w.marks) false h.0
          ((included (Among s fail) (λ b n depth. process_found (rules_in s b n) state rest (now_at now depth)) others
          all j k).leads b n depth w right h.1)

  -- ---- regions

  pub no_more_processed : (states : List ℕ) (now : Event) (xs : List Around) (r : Processed) → states ≡ []
      → r.stay.items ≡ xs
      → Leads s (Among s xs) (λ b n depth. (rules_in s b n).process_each states (now_at now depth)) (went_ends s r)
  no_more_processed states now xs r e q =
      subst (λ z. Leads s (Among s xs) (λ b n depth. (rules_in s b n).process_each z (now_at now depth))
      (went_ends s r)) (sym e)
      (by_rule s (Among s xs) (λ b n depth. (rules_in s b n).process_each [] (now_at now depth))
      (λ b n depth. give Stay) (went_ends s r) (λ b depth w. refl) (λ b n depth w. refl)
      (stay_leads (Among s xs) r (λ w h. subst (λ l. Among s l w) (sym q) h)))

  pub next_processed : (states rest : List ℕ) (x : ℕ) (now : Event) (xs pass fail left : List Around)
      (one others all : Processed) → states ≡ x ∷ rest → Splits s (On x) xs pass fail
      → Leads s (Among s pass) (λ b n depth. (rules_in s b n).process x (now_at now depth)) (went_ends s one)
      → Unites s fail one.stay.items left
      → Leads s (Among s left) (λ b n depth. (rules_in s b n).process_each rest (now_at now depth))
      (went_ends s others) → all.stay.items ≡ others.stay.items
      → PutsTogether s one.outs.items others.outs.items all.outs.items
      → Leads s (Among s xs) (λ b n depth. (rules_in s b n).process_each states (now_at now depth)) (went_ends s all)
  next_processed states rest x now xs pass fail left one others all e sp l u k q p =
      subst (λ z. Leads s (Among s xs) (λ b n depth. (rules_in s b n).process_each z (now_at now depth))
      (went_ends s all)) (sym e)
      (by_rule s (Among s xs) (λ b n depth. (rules_in s b n).process_each (x ∷ rest) (now_at now depth))
      (λ b n depth. process_each_rule (chart_in s) (rules_in s b n) (x ∷ rest) (now_at now depth)) (went_ends s all)
      (λ b depth w. refl) (λ b n depth w. refl)
      (leads_split s (went_ends s all) (On x) (λ w. is_on x w.marks) xs pass fail
      (λ b n depth. (rules_in s b n).process x (now_at now depth)
      >>= after_region (chart_in s) (rules_in s b n) rest (now_at now depth))
      (λ b n depth. (rules_in s b n).process_each rest (now_at now depth)) (λ w. refl) sp
      (leads_then s (Among s pass) (λ b n depth. (rules_in s b n).process x (now_at now depth))
      (λ a b n depth. after_region (chart_in s) (rules_in s b n) rest (now_at now depth) a) (went_ends s one) (went_ends s all) l
      after) (rest_leads (Among s fail) (λ w h. u.left w h))))
    where
      more : (a : Went) (w : World) → went_ends s others a w → went_ends s all a w
      more Stay w h = subst (λ z. Among s z w) (sym q) h
      more (Out home) w h = p.right home w h

      rest_leads : (from : World → Type 0) → ((w : World) → from w → Among s left w)
          → Leads s from (λ b n depth. (rules_in s b n).process_each rest (now_at now depth)) (went_ends s all)
      rest_leads from h = record {
        leads = λ b n depth w right g.
            (leads_more s (λ b n depth. (rules_in s b n).process_each rest (now_at now depth)) (Among s left)
            (went_ends s others) (went_ends s all) more k).leads b n depth w right (h w g);
      }

      after : (a : Went) → Leads s (went_ends s one a)
          (λ b n depth. after_region (chart_in s) (rules_in s b n) rest (now_at now depth) a) (went_ends s all)
      after Stay = rest_leads (Among s one.stay.items) (λ w h. u.right w h)
      after (Out home) =
          leads_give s (went_ends s all) (IsOut s one.outs.items home) (Out home) (λ w h. p.left home w h)
